use Rattle.std.proofs.Common.{◌≤◌, length, ap, ◌∙◌, arith}
use Rattle.std.proofs.lemmas.List.{take_all}
use Rattle.pref_bindings.specs.Changes.{left}
use Rattle.pref_bindings.proofs.Sound.{left_given}
use Rattle.pref_bindings.proofs.leaving.left.Goals as goal

pub returns-clause-sound : goal.returns-clause-sound
returns-clause-sound c =
    let least : length c.args.preferences.now ≤ c.loop-preference.preference-index = omega arith in
    left_given c.args.slug.now c.args.preferences.now c.loop-preference.left c.requires
    (c.loop-preference.invariant.left ∙ ap (left c.args.slug.now) (take_all c.loop-preference.preference-index c.args.preferences.now least))
