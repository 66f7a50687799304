use Rattle.std.proofs.Common.{◌≡◌, [], rules, map, sym, ap, ◌∙◌, arith}
use Rattle.std.proofs.lemmas.Grind.{common_steps}
use Rattle.fml_imports.specs.Overrides.{overridden}
use Rattle.fml_imports.proofs.Overriding.{over_nothing}
use Rattle.fml_imports.proofs.tables.overridden.Goals as goal

pub returns : goal.returns
returns c =
    let features = c.loop-name.features in
    let empty : c.loop-name.name-iterator.rest.items ≡ [] = first_of (search rules, grind (arith, common_steps)) in
    sym (over_nothing features) ∙ sym (ap (λ os. map (overridden os) features) empty) ∙ c.loop-name.invariant
