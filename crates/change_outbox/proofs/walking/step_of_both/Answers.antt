use Rattle.std.proofs.Common.{arith}
use Rattle.enrol_states.proofs.Lookups.{slug_of}
use Rattle.sequences.proofs.Rising.{rest_rises}
use Rattle.change_outbox.proofs.Turns.{both_told}
use Rattle.change_outbox.proofs.walking.step_of_both.Goals as goal

pub returns : goal.returns
returns c = record {
  split = both_told c.args.old.now c.args.new.now c.args.olds.now c.args.news.now _ _ c.requires.same c.branch_of.ensures c.branch_of-2.ensures c.requires.order.old_rows c.requires.order.new_rows;
  fewer = omega arith;
  order = record {
    old_rows = rest_rises slug_of c.args.old.now c.args.olds.now c.requires.order.old_rows;
    new_rows = rest_rises slug_of c.args.new.now c.args.news.now c.requires.order.new_rows;
  };
}
