-- Batches that have one encoding are one.
use Rattle.std.proofs.Common.{◌≡◌, ◌<◌, ◌++◌, ◌∷◌, [], List, ℕ, Bool, true, false, get_or, drop, ap, ◌∙◌, sym, refl, arith}
use Rattle.std.specs.List.{AllByRecursion}
use Rattle.row_batches.specs.Batch.{ChangeList, IsBatch, FitsFields, batch_text, changes_text, clear_text}
use Rattle.row_batches.specs.Laws.{HasOneEncoding}
use Rattle.row_batches.specs.declared.change.RowChange.{RowChange}
use Rattle.row_batches.specs.declared.change.RowChange.TheVariants.{Put, Delete}
use Rattle.row_batches.proofs.Texts.{same_changes}

more_than_zero : (x y : ℕ) → 0 < x → y ≡ 0 → x ≡ y → ⊥
more_than_zero x y more none same = omega arith

-- a change doesn't begin as a clear
pub no_clear : (cs : List RowChange) (rest : List ℕ) → changes_text cs ≡ 0 ∷ rest → ⊥
no_clear [] rest same = cc
no_clear (Put r ∷ cs) rest same = more_than_zero 1 0 (omega arith) refl (ap (λ l. get_or l 0 0) same)
no_clear (Delete key ∷ cs) rest same = more_than_zero 2 0 (omega arith) refl (ap (λ l. get_or l 0 0) same)

both : (x y : Bool) (cs ds : List RowChange) → AllByRecursion FitsFields cs → AllByRecursion FitsFields ds → clear_text x ++ changes_text cs ≡ clear_text y ++ changes_text ds → (x ≡ y) × (cs ≡ ds)
both true true cs ds c_in d_in same = (refl, same_changes cs ds c_in d_in (ap (drop 1) same))
both false false cs ds c_in d_in same = (refl, same_changes cs ds c_in d_in same)
both true false cs ds c_in d_in same = absurd (no_clear ds (changes_text cs) (sym same))
both false true cs ds c_in d_in same = absurd (no_clear cs (changes_text ds) same)

pub one_encoding : HasOneEncoding
one_encoding b c b_is c_is same =
    let parts = both b.clear c.clear b.changes c.changes b_is.room c_is.room same in
    λ i. record { clear = parts.0 i; changes = parts.1 i }

-- the batches of bytes that begin with a clear, and of those that don't
pub none_cleared : (bytes behind : List ℕ) → bytes ≡ 0 ∷ behind → ((changes : List RowChange) → IsBatch (record { clear = true; changes = changes }) → behind ≡ changes_text changes → ⊥)
    → (batch : ChangeList) → IsBatch batch → bytes ≡ batch_text batch → ⊥
none_cleared bytes behind starts none batch rules same = by_clear batch.clear batch.changes rules (sym starts ∙ same)
  where
    by_clear : (clear : Bool) (changes : List RowChange) → IsBatch (record { clear = clear; changes = changes }) → 0 ∷ behind ≡ clear_text clear ++ changes_text changes → ⊥
    by_clear true changes is said = none changes is (ap (drop 1) said)
    by_clear false changes is said = no_clear changes behind (sym said)

pub none_uncleared : (bytes : List ℕ) → ((rest : List ℕ) → bytes ≡ 0 ∷ rest → ⊥) → ((changes : List RowChange) → IsBatch (record { clear = false; changes = changes }) → bytes ≡ changes_text changes → ⊥)
    → (batch : ChangeList) → IsBatch batch → bytes ≡ batch_text batch → ⊥
none_uncleared bytes starts none batch rules same = by_clear batch.clear batch.changes rules same
  where
    by_clear : (clear : Bool) (changes : List RowChange) → IsBatch (record { clear = clear; changes = changes }) → bytes ≡ clear_text clear ++ changes_text changes → ⊥
    by_clear true changes is said = starts (changes_text changes) said
    by_clear false changes is said = none changes is said
