use Rattle.std.proofs.Common.{rules, sym, ap, ◌∙◌, subst}
use Rattle.std.specs.BTreeMap.{insert_entry}
use Rattle.std.specs.List.{AllByRecursion}
use Rattle.recipe_reader.specs.Payloads.{slug_cmp}
use Rattle.pref_bindings.specs.Changes.{IsSetting}
use Rattle.pref_bindings.specs.Preferences.{IsValue}
use Rattle.pref_bindings.proofs.BoundValues.{put_each}
use Rattle.pref_bindings.proofs.bound.add_setting.Goals as goal

pub returns-in_ok-insert-clause-settings : goal.returns-in_ok-insert-clause-settings
returns-in_ok-insert-clause-settings c =
    let es = c.args.settings.now.entries in
    let value : IsValue c.in-Some.value = search rules in
    let grown = c.in_ok-insert.ensures.entries ∙ ap (λ k. insert_entry slug_cmp es k c.in-Some.value) c.in_ok-clone.ensures.cases in
    subst (λ vs. AllByRecursion IsSetting vs) (sym grown) (put_each c.args.binding.now.preference c.in-Some.value es c.requires.name value c.requires.settings)
