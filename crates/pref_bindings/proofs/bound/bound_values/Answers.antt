use Rattle.pref_bindings.proofs.BoundValues.{no_settings}
use Rattle.pref_bindings.proofs.bound.bound_values.Goals as goal

pub returns-in-None-clause-settings : goal.returns-in-None-clause-settings
returns-in-None-clause-settings c = no_settings c.new.result c.new.ensures
