use Rattle.std.proofs.Common.{◌≡◌, ◌∙◌, rules, arith}
use Rattle.std.proofs.lemmas.Grind.{common_steps}
use Rattle.pref_bindings.proofs.BoundValues.{are_settings}
use Rattle.pref_bindings.proofs.bound.in_order.Goals as goal

pub returns-clause-settings : goal.returns-clause-settings
returns-clause-settings c =
    let items : c.in_ok-pairs.pairs.items ≡ c.args.settings.entries = first_of (search rules, grind (arith, common_steps)) in
    are_settings c.from_vec.result c.args.settings.entries (c.from_vec.ensures ∙ items) c.into_iter.ensures.into_iter_gives.5 c.requires
