-- One branch more.
use Rattle.std.proofs.Common.{sym, ◌∙◌, arith}
use Rattle.json_length.proofs.Lengths.{item_length, sum_more}
use Rattle.recipe_reader.specs.Records.{branch_json}
use Rattle.recipe_reader.proofs.RecordSums.{all_items, sound_more}
use Rattle.recipe_reader.proofs.record_lengths.branches_length.Goals as goal

pub loop-branch-preserved : goal.loop-branch-preserved
loop-branch-preserved c =
    let xs = c.args.branches.now in
    let i = c.loop-branch.branch-index in
    let x = c.branch-item.result in
    let one = c.branch_length.ensures in
    record {
      length = omega (arith, c.loop-branch.invariant.length, sum_more (λ y. item_length (branch_json y)) xs i x c.loop-branch-test.true c.branch-item.is, one.length);
      bound = omega (arith, c.loop-branch.invariant.bound, one.bound);
      sound = sound_more branch_json xs i x c.loop-branch-test.true c.branch-item.is c.loop-branch.invariant.sound one.sound;
    }

pub returns-clause-length : goal.returns-clause-length
returns-clause-length c = all_items branch_json c.args.branches.now c.loop-branch.length c.loop-branch.branch-index c.loop-branch.invariant.length c.loop-branch-test.false (sym c.is_empty.ensures ∙ c.if-is_empty.false)
