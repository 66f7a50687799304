-- A row that a state has one of is put where its value differs, which its fields tell.
use Rattle.std.proofs.Common.{◌≡◌, ◌≤◌, ◌++◌, ◌∷◌, [], List, ℕ, Bool, true, false, IsTrue, refl, ap, sym, ◌∙◌}
use Rattle.std.specs.Bool.{beq}
use Rattle.std.specs.Cmp.{booleans_Decides, unsigned_Decides}
use Rattle.std.specs.Cmp.Lexicographic.{bytes_decides}
use Rattle.std.specs.Prelude.{◌==◌, ◌↔◌, bytes_eq, if◌then◌else◌, Some}
use Rattle.std.proofs.lemmas.List.{append-nil}
use Rattle.enrol_states.specs.Consistent.{IsId}
use Rattle.enrol_states.specs.Statuses.{last_moment}
use Rattle.row_batches.specs.Between.{put_where_differs}
use Rattle.row_batches.specs.declared.change.RowChange.{RowChange}
use Rattle.row_batches.specs.declared.change.RowChange.TheVariants.{Put}
use Rattle.row_batches.specs.declared.store_row.StoreRow.{StoreRow}
use Rattle.state_values.specs.Reading.{flag_in, id_in, number_in}
use Rattle.state_values.specs.Statuses.{number}
use Rattle.state_values.specs.Values.{bit, hyphenated}
use Rattle.state_values.proofs.ValuesRead.{flag_read, id_read, number_read}
use Rattle.state_codec.proofs.Items.{values_told}

-- ---- values

pub ids_told : (a b : List ℕ) → IsId a → IsId b → IsTrue (bytes_eq a b) ↔ (hyphenated a ≡ hyphenated b)
ids_told a b a_is b_is = values_told hyphenated id_in a b (bytes_eq a b) (bytes_decides a b) (id_read a a_is) (id_read b b_is)

pub moments_told : (m n : ℕ) → m ≤ last_moment → n ≤ last_moment → IsTrue (m == n) ↔ (number m ≡ number n)
moments_told m n m_is n_is = values_told number number_in m n (m == n) (unsigned_Decides m n) (number_read m m_is) (number_read n n_is)

pub flags_told : (p q : Bool) → IsTrue (beq p q) ↔ (bit p ∷ [] ≡ bit q ∷ [])
flags_told p q =
    values_told (λ (flag : Bool). bit flag ∷ []) (λ value. Some (flag_in value)) p q (beq p q) (booleans_Decides p q) (ap (λ (flag : Bool). Some flag) (flag_read p)) (ap (λ (flag : Bool). Some flag) (flag_read q))

pub bytes_told : (m n : ℕ) → IsTrue (m == n) ↔ (m ∷ [] ≡ n ∷ [])
bytes_told m n = (λ e. ap (λ (byte : ℕ). byte ∷ []) ((unsigned_Decides m n).0 e), λ same. (unsigned_Decides m n).1 cc)

pub texts_told : (a b : List ℕ) → IsTrue (bytes_eq a b) ↔ (a ≡ b)
texts_told a b = bytes_decides a b

-- ---- puts

put_unless : (new : StoreRow) (b : Bool) → (b ≡ true → ⊥) → (if b then [] else Put new ∷ []) ≡ Put new ∷ []
put_unless new true is_not = absurd (is_not refl)
put_unless new false is_not = refl

pub put_other : (old new : StoreRow) → (old.value ≡ new.value → ⊥) → put_where_differs old new ≡ Put new ∷ []
put_other old new differ = put_unless new (bytes_eq old.value new.value) (λ e. differ ((bytes_decides old.value new.value).0 e))

pub put_none : (old new : StoreRow) (changes : List RowChange) → old.value ≡ new.value → changes ≡ changes ++ put_where_differs old new
put_none old new changes same =
    sym (append-nil changes)
    ∙ ap (λ (b : Bool). changes ++ (if b then [] else Put new ∷ [])) (sym ((bytes_decides old.value new.value).1 same))
