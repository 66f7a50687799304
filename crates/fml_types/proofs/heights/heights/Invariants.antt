use Rattle.fml_types.proofs.HeightRounds.{AreHeightsUpTo}
use Rattle.fml_types.proofs.heights.heights.Given as goal

abbrev pub invariant-loop : goal.invariant-loop
invariant-loop l = AreHeightsUpTo l.graph l.counter l.heights.items
