use Rattle.std.proofs.Common.{◌≡◌, map, take}
use Rattle.fml_types.specs.Capped.{capped}
use Rattle.fml_types.specs.Graph.{part_of}
use Rattle.fml_types.proofs.graph.parts_of.Given as goal

abbrev pub invariant-loop-name : goal.invariant-loop-name
invariant-loop-name l = l.parts ≡ map capped (map (part_of l.objects) (take l.name-index l.pairs))
