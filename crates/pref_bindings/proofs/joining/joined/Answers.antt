use Rattle.std.proofs.Common.{rules, ◌≡◌, ◌++◌, List, [], sym, ap, ◌∙◌, append-nil}
use Rattle.pref_bindings.specs.declared.preference.Preference.{Preference}
use Rattle.pref_bindings.specs.Changes.{joined}
use Rattle.pref_bindings.proofs.Sound.{joined_given}
use Rattle.pref_bindings.proofs.joining.joined.Goals as goal

pub returns-clause-sound : goal.returns-clause-sound
returns-clause-sound c =
    let none : joined c.args.slug.now c.loop-step.sets.now c.loop-step.olds.now ≡ [] = search rules in
    let is : c.loop-step.joined ≡ joined c.args.slug.now c.args.settings.now c.args.preferences.now =
    sym (append-nil c.loop-step.joined) ∙ ap (λ (l : List Preference). c.loop-step.joined ++ l) (sym none) ∙ c.loop-step.invariant.joined in
    joined_given c.args.slug.now c.args.settings.now c.args.preferences.now c.loop-step.joined c.text.ensures.slug c.requires.settings c.requires.sound is
