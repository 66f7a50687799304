-- What was read is the front of each reading.
use Rattle.std.proofs.Common.{◌≡◌, true, ap, sym, ◌∙◌}
use Rattle.row_batches.specs.Batch.{ChangeList}
use Rattle.row_batches.specs.BatchParts.{put_of}
use Rattle.row_batches.specs.declared.change.RowChange.TheVariants.{Delete}
use Rattle.row_batches.proofs.Keeping.{next_in, put_in}
use Rattle.row_batches.proofs.Texts.{no_more, next_read, read_on}
use Rattle.row_batches.proofs.reading.with_changes.Goals as goal

pub returns-in-NoChange-clause-none : goal.returns-in-NoChange-clause-none
returns-in-NoChange-clause-none c _ changes rules same =
    no_more c.loop-batch.batch.changes c.loop-batch.rest.now c.args.bytes.now c.loop-batch.invariant.read c.loop-batch.invariant.rules.room c.in-NoChange.ensures changes rules.room same

pub returns-then-not-comes_next-clause-none : goal.returns-then-not-comes_next-clause-none
returns-then-not-comes_next-clause-none c _ changes rules same =
    let taken = c.loop-batch.batch.changes in
    let change = put_of c.in-Put.key.now c.in-Put.value.now in
    let next = next_read taken change c.loop-batch.rest.now c.in-Put.behind.now c.args.bytes.now c.loop-batch.invariant.read c.loop-batch.invariant.rules.room c.in-Put.ensures changes rules.room same in
    let comes = c.comes_next.ensures.1 (next_in (record { clear = c.args.batch.clear; changes = changes }) taken change next.more rules next.all_are) in
    absurd cc

pub returns-then-is_clear-clause-none : goal.returns-then-is_clear-clause-none
returns-then-is_clear-clause-none c _ changes rules same =
    let taken = c.loop-batch.batch.changes in
    let change = Delete c.in-Delete.key.now in
    let next = next_read taken change c.loop-batch.rest.now c.in-Delete.behind.now c.args.bytes.now c.loop-batch.invariant.read c.loop-batch.invariant.rules.room c.in-Delete.ensures changes rules.room same in
    let clear : c.args.batch.clear ≡ true = sym c.loop-batch.invariant.clear ∙ sym c.is_clear.ensures ∙ c.if-is_clear.true in
    put_in (record { clear = c.args.batch.clear; changes = changes }) taken change next.more rules next.all_are clear

pub returns-then-not-comes_next-2-clause-none : goal.returns-then-not-comes_next-2-clause-none
returns-then-not-comes_next-2-clause-none c _ changes rules same =
    let taken = c.loop-batch.batch.changes in
    let change = Delete c.in-Delete.key.now in
    let next = next_read taken change c.loop-batch.rest.now c.in-Delete.behind.now c.args.bytes.now c.loop-batch.invariant.read c.loop-batch.invariant.rules.room c.in-Delete.ensures changes rules.room same in
    let comes = c.comes_next-in-Delete.ensures.1 (next_in (record { clear = c.args.batch.clear; changes = changes }) taken change next.more rules next.all_are) in
    absurd cc

pub loop-batch-preserved-in-Put : goal.loop-batch-preserved-in-Put
loop-batch-preserved-in-Put c =
    let batch = c.loop-batch.batch in
    let grows = c.in_ok-push-in-Put.ensures.ok in
    let change = put_of c.in-Put.key.now c.in-Put.value.now in
    record {
      clear = ap (λ (b : ChangeList). b.clear) grows ∙ c.loop-batch.invariant.clear;
      read = read_on batch c.push.new.self change c.in_ok-put_of-in-Put.field-0 c.loop-batch.rest.now c.in-Put.behind.now c.args.bytes.now grows c.in_ok-put_of-in-Put.ensures c.loop-batch.invariant.read c.in-Put.ensures;
      rules = c.in_ok-push-in-Put.ensures.rules;
    }

pub loop-batch-preserved : goal.loop-batch-preserved
loop-batch-preserved c =
    let batch = c.loop-batch.batch in
    let grows = c.in_ok-push-in-Delete.ensures.ok in
    let change = Delete c.in-Delete.key.now in
    record {
      clear = ap (λ (b : ChangeList). b.clear) grows ∙ c.loop-batch.invariant.clear;
      read = read_on batch c.push-in-Delete.new.self change c.in_ok-delete_of-in-Delete.field-0 c.loop-batch.rest.now c.in-Delete.behind.now c.args.bytes.now grows c.in_ok-delete_of-in-Delete.ensures c.loop-batch.invariant.read c.in-Delete.ensures;
      rules = c.in_ok-push-in-Delete.ensures.rules;
    }
