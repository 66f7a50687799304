use Rattle.fml_types.proofs.WeightRounds.{AreWeightsUpTo}
use Rattle.fml_types.proofs.weights.weights.Given as goal

abbrev pub invariant-loop : goal.invariant-loop
invariant-loop l = AreWeightsUpTo l.graph l.counter l.weights.items
