use Rattle.std.proofs.Common.{◌≡◌, map, drop}
use Rattle.json_tree.specs.Json.{items_of}
use Rattle.json_tree.specs.Tree.{json_of}
use Rattle.recipe_reader.specs.Payloads.{AreValid, no_records, payload_from}
use Rattle.recipe_reader.specs.Taken.{HaveOwnSlugs, so_far}
use Rattle.recipe_reader.proofs.payload.take_records.Given as goal

abbrev pub invariant-loop-tree : goal.invariant-loop-tree
invariant-loop-tree l =
    (l.index ≡ l.tree-index)
    × (payload_from l.tree-index (so_far l.taken) (items_of (map json_of (drop l.tree-index l.records))) ≡ payload_from 0 no_records (items_of (map json_of l.records)))
    × AreValid (so_far l.taken).recipes
    × HaveOwnSlugs l.taken.recipes.entries
