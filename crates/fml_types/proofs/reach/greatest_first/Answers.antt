use Rattle.std.proofs.lemmas.List.Sorted.{Contains-permutation}
use Rattle.fml_types.proofs.reach.greatest_first.Goals as goal

pub returns-clause-each : goal.returns-clause-each
returns-clause-each c i h = Contains-permutation _ _ i c.sort_unstable_by_key.ensures.permutation (c.in_ok-places.ensures.each i h)
