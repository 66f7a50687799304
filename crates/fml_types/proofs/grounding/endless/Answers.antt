use Rattle.std.proofs.Common.{ap, ◌∙◌}
use Rattle.fml_types.specs.Ground.{first_above}
use Rattle.fml_types.specs.Values.{value_in}
use Rattle.fml_types.proofs.Capping.{endless_found}
use Rattle.fml_types.proofs.grounding.endless.Goals as goal

pub returns : goal.returns
returns c =
    let above = c.first_above.ensures ∙ ap (λ os. first_above 32 (value_in c.deref.result.now) 0 os) c.as_slice.ensures.pairs in
    c.in_ok-name.ensures ∙ above ∙ endless_found c.args.objects.now c.args.graph.now c.deref.result.now c.requires.graph (c.deref.ensures.value ∙ c.in_ok-heights.ensures)
