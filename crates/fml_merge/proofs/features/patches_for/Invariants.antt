use Rattle.std.proofs.Common.{◌≡◌, Bor, map, take}
use Rattle.json_tree.specs.Tree.{json_of}
use Rattle.json_tree.specs.declared.tree.Tree.{Tree}
use Rattle.fml_merge.specs.Features.{patches_for}
use Rattle.fml_merge.proofs.features.patches_for.Given as goal

abbrev pub invariant-loop-entry : goal.invariant-loop-entry
invariant-loop-entry l = map (λ (t : Bor Tree). json_of t.now) l.patches.items ≡ patches_for l.channel (take l.entry-index l.entries)
