use Rattle.std.proofs.Common.{◌≡◌, ℕ, List, map, take}
use Rattle.fml_types.specs.Capped.{capped}
use Rattle.fml_types.specs.Graph.{part_of}
use Rattle.fml_types.specs.declared.manifest.ObjectDefinition.{ObjectDefinition}
use Rattle.fml_types.proofs.graph.graph_of.Given as goal

abbrev pub invariant-loop-definition : goal.invariant-loop-definition
invariant-loop-definition l = l.graph ≡ map (λ ps. map capped ps) (map (λ (o : List ℕ × ObjectDefinition). map (part_of l.objects) o.1.fields) (take l.definition-index l.definitions))
