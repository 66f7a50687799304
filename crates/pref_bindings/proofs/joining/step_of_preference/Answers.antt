use Rattle.std.proofs.Common.{arith}
use Rattle.sequences.proofs.Rising.{rest_rises}
use Rattle.pref_bindings.proofs.Joins.{stays_first}
use Rattle.pref_bindings.specs.declared.preference.Preference.{Preference}
use Rattle.pref_bindings.proofs.joining.step_of_preference.Goals as goal

pub returns : goal.returns
returns c = record {
  split = stays_first c.args.slug.now c.args.settings.now c.args.old.now c.args.olds.now c.requires.least;
  fewer = omega arith;
  order = record { preferences = rest_rises (λ (p : Preference). p.name) c.args.old.now c.args.olds.now c.requires.order.preferences; settings = c.requires.order.settings };
}
