use Rattle.std.proofs.Common.{◌≡◌, map, take}
use Rattle.json_tree.specs.Tree.{member_of}
use Rattle.app_context.proofs.members.copy_of_members.Given as goal

abbrev pub invariant-loop-key : goal.invariant-loop-key
invariant-loop-key l = l.copies ≡ map member_of (take l.key-index l.pairs)
