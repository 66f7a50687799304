use Rattle.std.proofs.Common.{◌≡◌, ◌++◌, map, take}
use Rattle.json_tree.specs.Tree.{member_of}
use Rattle.app_context.specs.Sides.{those}
use Rattle.app_context.proofs.events.push_those.Given as goal

abbrev pub invariant-loop-name : goal.invariant-loop-name
invariant-loop-name l = l.made ≡ l.initial.made ++ those l.side l.key (map member_of (take l.name-index l.pairs))
