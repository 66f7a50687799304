use Rattle.std.proofs.Common.{arith}
use Rattle.sequences.proofs.Rising.{rest_rises}
use Rattle.pref_bindings.proofs.Joins.{both_first}
use Rattle.pref_bindings.specs.declared.preference.Preference.{Preference}
use Rattle.pref_bindings.specs.Changes.{Setting}
use Rattle.pref_bindings.proofs.joining.step_of_both.Goals as goal

pub returns : goal.returns
returns c = record {
  split = both_first c.args.slug.now c.args.set.now c.args.sets.now c.args.old.now c.args.olds.now c.requires.same c.requires.order.settings;
  fewer = omega arith;
  order = record {
    preferences = rest_rises (λ (p : Preference). p.name) c.args.old.now c.args.olds.now c.requires.order.preferences;
    settings = rest_rises (λ (v : Setting). v.0) c.args.set.now c.args.sets.now c.requires.order.settings;
  };
}
