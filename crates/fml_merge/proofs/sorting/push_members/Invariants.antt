use Rattle.std.proofs.Common.{◌≡◌, ◌++◌, map, take}
use Rattle.json_tree.specs.Tree.{member_of}
use Rattle.fml_merge.specs.Layers.{piece_of}
use Rattle.fml_merge.proofs.sorting.push_members.Given as goal

abbrev pub invariant-loop-name : goal.invariant-loop-name
invariant-loop-name l = map piece_of l.pieces.items ≡ map piece_of l.fn.pieces.items ++ map member_of (take l.name-index l.members)
