use Rattle.std.proofs.Common.{◌≡◌, rules, ap, ◌∙◌}
use Rattle.std.specs.BTreeSet.{insert_key}
use Rattle.recipe_reader.specs.Payloads.{slug_cmp}
use Rattle.pref_bindings.proofs.FoundBindings.{found_next}
use Rattle.pref_bindings.proofs.bindings.Found.add.Goals as goal

pub returns-clause-preferences : goal.returns-clause-preferences
returns-clause-preferences c =
    let same : c.in_ok-clone.field-0 ≡ c.args.binding.preference = search rules in
    found_next c.args.binding c.args.self.now.preferences.keys c.insert.new.self.keys c.args.self.now.bindings c.push.new.self c.requires.preferences c.requires.is_new
    (c.in_ok-insert.ensures.keys ∙ ap (insert_key slug_cmp c.args.self.now.preferences.keys) same) c.in_ok-push.ensures.ok
