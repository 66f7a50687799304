-- A join that sets nothing has settings in order.
use Rattle.std.proofs.Common.{[], sym, subst}
use Rattle.std.specs.List.Sorted.{IsStrictlySortedBy}
use Rattle.pref_bindings.specs.Changes.{AreSettings}
use Rattle.client_state.proofs.preference_changes.join_values.Goals as goal

no_settings : AreSettings []
unfolding IsStrictlySortedBy
no_settings = record { names = tt; each = tt }

pub returns-in_default-clause-settings : goal.returns-in_default-clause-settings
returns-in_default-clause-settings c = subst AreSettings (sym c.new.ensures) no_settings
