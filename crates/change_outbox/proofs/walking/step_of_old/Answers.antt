use Rattle.std.proofs.Common.{refl, arith}
use Rattle.enrol_states.proofs.Lookups.{slug_of}
use Rattle.sequences.proofs.Rising.{rest_rises}
use Rattle.change_outbox.proofs.Turns.{old_told}
use Rattle.change_outbox.proofs.walking.step_of_old.Goals as goal

pub returns : goal.returns
returns c = record {
  split = old_told c.args.old.now c.args.olds.now c.args.news.now _ _ c.branch_of.ensures refl c.requires.order.old_rows c.requires.least;
  fewer = omega arith;
  order = record { old_rows = rest_rises slug_of c.args.old.now c.args.olds.now c.requires.order.old_rows; new_rows = c.requires.order.new_rows };
}
