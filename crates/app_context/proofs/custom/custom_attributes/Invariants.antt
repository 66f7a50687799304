use Rattle.std.proofs.Common.{◌≡◌, map, take}
use Rattle.json_tree.specs.Tree.{member_of}
use Rattle.app_context.specs.Attributes.{custom_attributes}
use Rattle.app_context.proofs.custom.custom_attributes.Given as goal

abbrev pub invariant-loop-name : goal.invariant-loop-name
invariant-loop-name l = l.kept ≡ custom_attributes (map member_of (take l.name-index l.members))
