use Rattle.std.proofs.Common.{◌≡◌, ◌≤◌, ◌+◌, ◌*◌, ◌^◌, map, take}
use Rattle.std.specs.List.{sum_by}
use Rattle.json_tree.specs.Json.{AreSoundItems, items_of}
use Rattle.json_length.proofs.Lengths.{item_length}
use Rattle.recipe_reader.specs.Records.{branch_json}
use Rattle.recipe_reader.proofs.record_lengths.branches_length.Given as goal

abbrev pub invariant-loop-branch : goal.invariant-loop-branch
invariant-loop-branch l = record {
  length : l.length ≡ 1 + sum_by (λ x. item_length (branch_json x)) (take l.branch-index l.branches);
  bound : l.length ≤ 1 + l.branch-index * 2 ^ 69;
  sound : AreSoundItems (items_of (map branch_json (take l.branch-index l.branches)));
}
