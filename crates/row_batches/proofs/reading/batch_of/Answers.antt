use Rattle.std.proofs.Common.{◌≡◌, refl, Bool, true, false, List, subst, ap}
use Rattle.row_batches.specs.Batch.{ChangeList, IsBatch, changes_text}
use Rattle.row_batches.specs.declared.change.RowChange.{RowChange}
use Rattle.row_batches.proofs.OneEncoding.{none_cleared, none_uncleared}
use Rattle.row_batches.proofs.reading.batch_of.Goals as goal

pub returns-in-Some-clause-not_a_batch : goal.returns-in-Some-clause-not_a_batch
returns-in-Some-clause-not_a_batch c err =
    let clear : c.clear.result.clear ≡ true = ap (λ (b : ChangeList). b.clear) c.clear.ensures in
    none_cleared c.args.bytes.now c.in-Some.changes.now c.in-Some.ensures.some
    (subst (λ (x : Bool). (changes : List RowChange) → IsBatch (record { clear = x; changes = changes }) → c.in-Some.changes.now ≡ changes_text changes → ⊥) clear (c.with_changes.ensures.none err))

pub returns-in-None-clause-not_a_batch : goal.returns-in-None-clause-not_a_batch
returns-in-None-clause-not_a_batch c err =
    let clear : c.new.result.clear ≡ false = ap (λ (b : ChangeList). b.clear) c.new.ensures in
    none_uncleared c.args.bytes.now (c.in-None.ensures.none refl)
    (subst (λ (x : Bool). (changes : List RowChange) → IsBatch (record { clear = x; changes = changes }) → c.args.bytes.now ≡ changes_text changes → ⊥) clear (c.with_changes-in-None.ensures.none err))
