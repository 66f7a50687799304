use Rattle.std.proofs.Common.{arith}
use Rattle.sequences.proofs.Rising.{rest_rises}
use Rattle.pref_bindings.proofs.Joins.{set_first}
use Rattle.pref_bindings.specs.Changes.{Setting}
use Rattle.pref_bindings.proofs.joining.step_of_setting.Goals as goal

pub returns : goal.returns
returns c = record {
  split = set_first c.args.slug.now c.args.set.now c.args.sets.now c.args.preferences.now c.requires.least c.requires.order.settings;
  fewer = omega arith;
  order = record { preferences = c.requires.order.preferences; settings = rest_rises (λ (v : Setting). v.0) c.args.set.now c.args.sets.now c.requires.order.settings };
}
