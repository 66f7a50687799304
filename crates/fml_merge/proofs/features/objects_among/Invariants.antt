use Rattle.std.proofs.Common.{◌≡◌, ℕ, List, Bor, map, take}
use Rattle.json_tree.specs.Json.{Json, members_of}
use Rattle.json_tree.specs.Tree.{json_of}
use Rattle.json_tree.specs.declared.tree.Tree.{Tree}
use Rattle.fml_merge.specs.Features.{AreSound, objects_among}
use Rattle.fml_merge.proofs.features.objects_among.Given as goal

abbrev pub invariant-loop-patch : goal.invariant-loop-patch
invariant-loop-patch l = record {
  layers : map (λ (m : Bor (List (List ℕ × Json))). members_of m.now) l.layers.items ≡ objects_among (map (λ (t : Bor Tree). json_of t.now) (take l.patch-index l.patches));
  sound : AreSound (map (λ (t : Bor Tree). json_of t.now) (take l.patch-index l.patches));
}
