use Rattle.std.proofs.Common.{ap, ◌∙◌}
use Rattle.fml_types.specs.Ground.{first_above}
use Rattle.fml_types.specs.Values.{value_in}
use Rattle.fml_types.proofs.Capping.{large_found, low_heights}
use Rattle.fml_types.proofs.grounding.too_large.Goals as goal

pub returns : goal.returns
returns c =
    let above = c.first_above.ensures ∙ ap (λ os. first_above 16384 (value_in c.deref.result.now) 0 os) c.as_slice.ensures.pairs in
    c.in_ok-name.ensures ∙ above ∙ large_found c.args.objects.now c.args.graph.now c.deref.result.now c.requires.graph (c.deref.ensures.value ∙ c.in_ok-weights.ensures)

pub weights-requires-clause-low : goal.weights-requires-clause-low
weights-requires-clause-low c = low_heights c.args.objects.now c.args.graph.now c.requires.graph c.requires.low
