use Rattle.std.proofs.Common.{◌≡◌, map, take}
use Rattle.json_tree.specs.Json.{members_of}
use Rattle.json_tree.specs.Tree.{member_of}
use Rattle.app_context.specs.Contexts.{wants}
use Rattle.app_context.specs.Named.{texts_where}
use Rattle.app_context.proofs.members.texts_where.Given as goal

abbrev pub invariant-loop-name : goal.invariant-loop-name
invariant-loop-name l = l.texts ≡ texts_where (wants l.wanted) (members_of (map member_of (take l.name-index l.pairs)))
