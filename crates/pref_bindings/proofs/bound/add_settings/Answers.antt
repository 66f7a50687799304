use Rattle.std.proofs.Common.{◌∙◌}
use Rattle.pref_bindings.proofs.BoundValues.{named_at, set_next}
use Rattle.pref_bindings.proofs.bound.add_settings.Goals as goal

pub loop-binding-preserved : goal.loop-binding-preserved
loop-binding-preserved c = record {
  values = c.in_ok-add_setting.ensures.added ∙ set_next c.args.manifest.now c.args.branch.now c.args.bindings.now c.loop-binding.binding-index c.binding-item.result c.loop-binding-test.true c.binding-item.is c.args.settings.now.entries c.loop-binding.settings.entries c.loop-binding.invariant.values;
  each = c.in_ok-add_setting.ensures.settings;
}

pub add_setting-requires-clause-name : goal.add_setting-requires-clause-name
add_setting-requires-clause-name c = named_at c.args.bindings.now c.loop-binding.binding-index c.binding-item.result c.loop-binding-test.true c.binding-item.is c.requires.names
