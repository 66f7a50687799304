use Rattle.std.proofs.Common.{refl, arith}
use Rattle.enrol_states.proofs.Lookups.{slug_of}
use Rattle.sequences.proofs.Rising.{rest_rises}
use Rattle.change_outbox.proofs.Turns.{new_told}
use Rattle.change_outbox.proofs.walking.step_of_new.Goals as goal

pub returns : goal.returns
returns c = record {
  split = new_told c.args.new.now c.args.olds.now c.args.news.now _ _ refl c.branch_of.ensures c.requires.order.new_rows c.requires.least;
  fewer = omega arith;
  order = record { old_rows = c.requires.order.old_rows; new_rows = rest_rises slug_of c.args.new.now c.args.news.now c.requires.order.new_rows };
}
