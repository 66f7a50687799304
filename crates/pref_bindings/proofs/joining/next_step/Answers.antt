use Rattle.std.proofs.Common.{rules, ◌≡◌, ◌<◌, length, Less, Greater}
use Rattle.sequences.proofs.Rising.{all_above}
use Rattle.recipe_reader.specs.Payloads.{slug_cmp}
use Rattle.enrol_states.proofs.Ordered.{turned_down}
use Rattle.pref_bindings.proofs.Joins.{none_joined}
use Rattle.pref_bindings.specs.declared.preference.Preference.{Preference}
use Rattle.pref_bindings.specs.Changes.{Setting}
use Rattle.pref_bindings.proofs.joining.next_step.Goals as goal

pub step_of_preference-requires-in-Less-clause-least : goal.step_of_preference-requires-in-Less-clause-least
step_of_preference-requires-in-Less-clause-least c =
    let less : slug_cmp c.old-item-2.result.name c.set-item-2.result.0 ≡ Less = search rules in
    let some : 0 < length c.args.settings.now = search rules in
    all_above (λ (v : Setting). v.0) c.old-item-2.result.name c.args.settings.now c.set-item-2.result some c.set-item-2.is less c.requires.settings

pub step_of_setting-requires-in-Greater-clause-least : goal.step_of_setting-requires-in-Greater-clause-least
step_of_setting-requires-in-Greater-clause-least c =
    let greater : slug_cmp c.old-item-2.result.name c.set-item-2.result.0 ≡ Greater = search rules in
    let some : 0 < length c.args.preferences.now = search rules in
    all_above (λ (p : Preference). p.name) c.set-item-2.result.0 c.args.preferences.now c.old-item-2.result some c.old-item-2.is (turned_down c.old-item-2.result.name c.set-item-2.result.0 greater) c.requires.preferences

pub returns-in-empty-empty-clause-end : goal.returns-in-empty-empty-clause-end
returns-in-empty-empty-clause-end c = λ none. none_joined c.args.slug.now c.args.settings.now c.args.preferences.now (search rules) (search rules)
