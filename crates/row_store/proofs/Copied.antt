-- A change of a batch follows those before it.
use Rattle.std.proofs.Common.{◌≡◌, ◌<◌, ◌+◌, ℕ, List, [], ◌∷◌, ◌++◌, IsTrue, length, get_or, take, drop, sym, ◌∙◌, ap, subst, take-append-drop}
use Rattle.std.proofs.lemmas.List.{drop_more}
use Rattle.std.specs.List.{AllByRecursion}
use Rattle.row_batches.specs.Batch.{ChangeList, ComesNext, FitsFields, IsBatch, IsPut}
use Rattle.row_batches.specs.Rows.{key_in}
use Rattle.row_batches.specs.declared.change.RowChange.{RowChange}
use Rattle.row_batches.proofs.Keeping.{next_in, put_in}

pub change_at : (changes : List RowChange) (i : ℕ) (change : RowChange) → i < length changes → change ≡ get_or changes i change → changes ≡ take i changes ++ change ∷ drop (i + 1) changes
change_at changes i change within is =
    sym (take-append-drop i changes) ∙ ap (λ (l : List RowChange). take i changes ++ l) (drop_more changes i change within ∙ ap (λ (c : RowChange). c ∷ drop (i + 1) changes) (sym is))

fits_here : (front : List RowChange) (c : RowChange) (more : List RowChange) → AllByRecursion FitsFields (front ++ c ∷ more) → FitsFields c
fits_here [] c more all = all.0
fits_here (f ∷ front) c more all = fits_here front c more all.1

fits_in : (batch : ChangeList) (front : List RowChange) (c : RowChange) (more : List RowChange) → IsBatch batch → batch.changes ≡ front ++ c ∷ more → FitsFields c
fits_in batch front c more rules is = fits_here front c more (subst (AllByRecursion FitsFields) is rules.room)

-- this change may be pushed on a batch
pub record MayPush (batch : ChangeList) (change : RowChange) : Type 0 where
  pub next : ComesNext (key_in change) batch.changes
  pub room : FitsFields change
  pub puts : IsTrue batch.clear → IsPut change

-- the next change of a batch may be pushed on a copy of those before it
pub may_push : (batch copy : ChangeList) (changes : List RowChange) (i : ℕ) (change pushed : RowChange) → IsBatch batch → changes ≡ batch.changes → copy.clear ≡ batch.clear → copy.changes ≡ take i changes
    → i < length changes → change ≡ get_or changes i change → pushed ≡ change → MayPush copy pushed
may_push batch copy changes i change pushed rules changes_are clear so_far within is copied =
    let front = take i changes in
    let more = drop (i + 1) changes in
    let split : batch.changes ≡ front ++ change ∷ more = sym changes_are ∙ change_at changes i change within is in
    record {
      next = subst (λ (c : RowChange). ComesNext (key_in c) copy.changes) (sym copied) (subst (ComesNext (key_in change)) (sym so_far) (next_in batch front change more rules split));
      room = subst FitsFields (sym copied) (fits_in batch front change more rules split);
      puts = λ cleared. subst IsPut (sym copied) (put_in batch front change more rules split (subst IsTrue clear cleared));
    }
