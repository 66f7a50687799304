-- The forms of a state: both are read as it and are batches of one length, and each is told from the other by the row `p`.
use Rattle.std.proofs.Common.{◌≡◌, ◌+◌, ◌*◌, ◌<◌, ◌^◌, ◌++◌, ◌∷◌, [], List, ℕ, Bool, true, false, Some, inl, inr, map, length, refl, sym, ap, ap₂, ◌∙◌, subst, arith}
use Rattle.std.specs.Prelude.{◌||◌}
use Rattle.enrol_states.specs.Consistent.{IsConsistent}
use Rattle.enrol_states.specs.declared.state.State.{State}
use Rattle.row_batches.specs.Batch.{IsBatch, batch_text, whole_of}
use Rattle.row_batches.specs.Batches.{HaveRoom}
use Rattle.row_batches.specs.Rows.{AreRows}
use Rattle.row_batches.specs.declared.store_row.StoreRow.{StoreRow}
use Rattle.row_batches.proofs.Walks.{whole_rule}
use Rattle.state_codec.specs.Forms.{IsForm, IsOldForm, IsLaterForm, IsOldLater, AreParts, IsEncoded, old_rows, old_encoding, is_old, needs_migration}
use Rattle.state_values.specs.Reading.{flags, participation_in}
use Rattle.state_codec.specs.Reading.{before_id, from_id, state_in}
use Rattle.state_codec.specs.Sound.{IsSound}
use Rattle.state_values.specs.Values.{bit, participation_byte}
use Rattle.state_codec.specs.Encoding.{row, key_row, recipe_row, status_row, last_rows, pending_recipes, first_rows, later_rows, rows_with, rows_of, encoding}
use Rattle.state_codec.proofs.KeyOrder.{with_rise}
use Rattle.state_codec.proofs.Parts.{form_parts}
use Rattle.state_codec.proofs.Room.{with_room}
use Rattle.state_codec.proofs.Sizes.{length-byte}
use Rattle.state_codec.proofs.StateRead.{state_read}

-- ---- both are read as the state

both_say : (e r : Bool) → participation_in ((4 + bit e + 2 * bit r) ∷ []) ≡ Some (flags e r)
unfolding participation_in
both_say true true = refl
both_say true false = refl
both_say false true = refl
both_say false false = refl

participation_says : (s : State) → participation_in (participation_byte s ∷ []) ≡ Some (flags s.experiments s.rollouts)
unfolding participation_byte
participation_says s = both_say s.experiments s.rollouts

one_says : (e r : Bool) → e ≡ r → participation_in (bit e ∷ []) ≡ Some (flags e r)
unfolding participation_in
one_says true true same = refl
one_says true false same = absurd cc
one_says false true same = absurd cc
one_says false false same = refl

later_read : (first later : List StoreRow) (s : State) → IsSound s → first ≡ first_rows s → IsLaterForm s later → state_in first later ≡ Some s
later_read first later s sound are (inl is) = ap₂ (λ (a b : List StoreRow). state_in a b) are is ∙ state_read (participation_byte s) s (participation_says s) sound.consistent sound.records
later_read first later s sound are (inr old) =
    ap₂ (λ (a b : List StoreRow). state_in a b) are old.same ∙ state_read (bit s.experiments) s (one_says s.experiments s.rollouts old.one_flag) sound.consistent sound.records

pub parts_read : (first later : List StoreRow) (s : State) → IsSound s → AreParts s first later → state_in first later ≡ Some s
parts_read first later s sound parts = later_read first later s sound parts.first_are parts.later_are

pub form_read : (rows : List StoreRow) (s : State) → IsSound s → IsForm s rows → state_in (before_id rows) (from_id rows) ≡ Some s
form_read rows s sound form = parts_read (before_id rows) (from_id rows) s sound (form_parts rows s form)

-- ---- both are batches

pub form_rises : (s : State) (rows : List StoreRow) → IsConsistent s → IsForm s rows → AreRows rows
form_rises s rows is (inl same) = subst AreRows (sym same) (with_rise (participation_byte s) s is)
form_rises s rows is (inr old) = subst AreRows (sym old.same) (with_rise (bit s.experiments) s is)

abbrev size_of : List StoreRow → ℕ
size_of rows = length (batch_text (whole_of rows))

pub form_size : (s : State) (rows : List StoreRow) → IsForm s rows → length (batch_text (whole_of rows)) ≡ length (encoding s)
unfolding encoding
form_size s rows (inl same) = ap size_of same
form_size s rows (inr old) = ap size_of old.same ∙ length-byte (bit s.experiments) (participation_byte s) s

fits : (s : State) (rows : List StoreRow) → IsSound s → IsForm s rows → length (batch_text (whole_of rows)) < 2 ^ 32
fits s rows sound form = omega (arith, form_size s rows form, sound.size)

pub form_room : (s : State) (rows : List StoreRow) → IsSound s → IsForm s rows → HaveRoom rows
form_room s rows sound (inl same) = subst HaveRoom (sym same) (with_room (participation_byte s) s sound.consistent (fits s (rows_of s) sound (inl refl)))
form_room s rows sound (inr old) =
    subst HaveRoom (sym old.same) (with_room (bit s.experiments) s sound.consistent (fits s (old_rows s) sound (inr (record { one_flag = old.one_flag; same = refl }))))

pub form_rule : (s : State) (rows : List StoreRow) → IsSound s → IsForm s rows → IsBatch (whole_of rows)
form_rule s rows sound form = whole_rule rows (form_rises s rows sound.consistent form) (form_room s rows sound form)

-- ---- their bytes

-- a form of the state that these bytes encode
pub record Text (s : State) (bytes : List ℕ) : Type 0 where
  pub rows : List StoreRow
  pub form : IsForm s rows
  pub text : bytes ≡ batch_text (whole_of rows)

pub text_of_form : (s : State) (bytes : List ℕ) → IsEncoded s bytes → Text s bytes
unfolding encoding old_encoding
text_of_form s bytes (inl is) = record { rows = rows_of s; form = inl refl; text = is }
text_of_form s bytes (inr old) = record { rows = old_rows s; form = inr (record { one_flag = old.one_flag; same = refl }); text = old.same }

abbrev text : List StoreRow → List ℕ
text rows = batch_text (whole_of rows)

pub form_encoded : (s : State) (bytes : List ℕ) (rows : List StoreRow) → IsForm s rows → bytes ≡ batch_text (whole_of rows) → IsEncoded s bytes
unfolding encoding old_encoding
form_encoded s bytes rows (inl same) is = inl (is ∙ ap text same)
form_encoded s bytes rows (inr old) is = inr (record { one_flag = old.one_flag; same = is ∙ ap text old.same })

text_size : (s : State) (bytes : List ℕ) → Text s bytes → length bytes ≡ length (encoding s)
text_size s bytes t = ap length t.text ∙ form_size s t.rows t.form

pub encoded_size : (s : State) (bytes : List ℕ) → IsEncoded s bytes → length bytes ≡ length (encoding s)
encoded_size s bytes is = text_size s bytes (text_of_form s bytes is)

-- ---- the row `p` tells them apart

none_old : {A : Type 0} (f : A → StoreRow) (xs : List A) (rest : List StoreRow) → ((x : A) → is_old (f x) ≡ false) → needs_migration (map f xs ++ rest) ≡ needs_migration rest
none_old f [] rest none = refl
none_old f (x ∷ xs) rest none = ap (λ b. b || needs_migration (map f xs ++ rest)) (none x) ∙ none_old f xs rest none

or_none : (b c : Bool) → c ≡ false → (b || c) ≡ b
or_none true c none = refl
or_none false c none = none

later_byte : (byte : ℕ) (s : State) → needs_migration (later_rows byte s) ≡ is_old (row (112 ∷ []) (byte ∷ []))
unfolding later_rows
later_byte byte s =
    none_old (recipe_row (108 ∷ [])) s.live _ (λ r. refl)
    ∙ none_old (recipe_row (110 ∷ [])) (pending_recipes s.pending) _ (λ r. refl)
    ∙ none_old (key_row (111 ∷ [])) s.opted_out _ (λ slug. refl)
    ∙ or_none (is_old (row (112 ∷ []) (byte ∷ []))) (needs_migration (map status_row s.rows ++ last_rows s)) (none_old status_row s.rows (last_rows s) (λ w. refl))

with_byte : (byte : ℕ) (s : State) → needs_migration (rows_with byte s) ≡ is_old (row (112 ∷ []) (byte ∷ []))
unfolding rows_with first_rows
with_byte byte s = none_old (key_row (99 ∷ [])) s.coenrolling (later_rows byte s) (λ f. refl) ∙ later_byte byte s

new_byte : (e r : Bool) → is_old (row (112 ∷ []) ((4 + bit e + 2 * bit r) ∷ [])) ≡ false
new_byte true true = refl
new_byte true false = refl
new_byte false true = refl
new_byte false false = refl

old_byte : (e : Bool) → is_old (row (112 ∷ []) (bit e ∷ [])) ≡ true
old_byte true = refl
old_byte false = refl

pub encoded_is_new : (s : State) → needs_migration (rows_of s) ≡ false
unfolding participation_byte
encoded_is_new s = with_byte (participation_byte s) s ∙ new_byte s.experiments s.rollouts

pub old_is_old : (s : State) → needs_migration (old_rows s) ≡ true
old_is_old s = with_byte (bit s.experiments) s ∙ old_byte s.experiments

true_false : (b : Bool) → b ≡ true → b ≡ false → ⊥
true_false b is other = absurd cc

pub old_where : (rows : List StoreRow) (s : State) → needs_migration rows ≡ true → IsForm s rows → IsOldForm s rows
old_where rows s needs (inl is) = absurd (true_false (needs_migration rows) needs (ap needs_migration is ∙ encoded_is_new s))
old_where rows s needs (inr old) = old

pub new_where : (rows : List StoreRow) (s : State) → needs_migration rows ≡ false → IsForm s rows → rows ≡ rows_of s
new_where rows s none (inl is) = is
new_where rows s none (inr old) = absurd (true_false (needs_migration rows) (ap needs_migration old.same ∙ old_is_old s) none)

pub later_is_new : (s : State) → needs_migration (later_rows (participation_byte s) s) ≡ false
unfolding participation_byte
later_is_new s = later_byte (participation_byte s) s ∙ new_byte s.experiments s.rollouts

pub later_is_old : (s : State) → needs_migration (later_rows (bit s.experiments) s) ≡ true
later_is_old s = later_byte (bit s.experiments) s ∙ old_byte s.experiments

-- and of the later rows alone
pub old_later_where : (later : List StoreRow) (s : State) → needs_migration later ≡ true → IsLaterForm s later → IsOldLater s later
old_later_where later s needs (inl is) = absurd (true_false (needs_migration later) needs (ap needs_migration is ∙ later_is_new s))
old_later_where later s needs (inr old) = old

pub new_later_where : (later : List StoreRow) (s : State) → needs_migration later ≡ false → IsLaterForm s later → later ≡ later_rows (participation_byte s) s
new_later_where later s none (inl is) = is
new_later_where later s none (inr old) = absurd (true_false (needs_migration later) (ap needs_migration old.same ∙ later_is_old s) none)

-- rows are encoded or an old form, and never both
pub apart : (s t : State) (rows : List StoreRow) → rows ≡ rows_of s → IsOldForm t rows → ⊥
apart s t rows is old = true_false (needs_migration rows) (ap needs_migration old.same ∙ old_is_old t) (ap needs_migration is ∙ encoded_is_new s)
