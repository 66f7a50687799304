-- How long the files are.
use Rattle.std.proofs.Common.{◌+◌, ◌*◌, ◌<◌, ◌≤◌, ℕ, zero, suc, [], ◌∷◌, map, length, codes, arith}
use Rattle.std.specs.List.{range_with_len, sum_by}
use Rattle.std.proofs.lemmas.List.FromFn.{length-range_with_len}
use Rattle.std.proofs.lemmas.List.Sums.{sum_by-cons}
use Rattle.json.specs.Print.{escape_byte}
use Rattle.json_tree.specs.Json.{list, items_of}
use Rattle.json_tree.specs.Bytes.{text_of}
use Rattle.json_length.proofs.Lengths.{item_length, length-object, length-items}
use Rattle.recipe_drill.specs.Draws.{draws}
use Rattle.recipe_drill.specs.Records.{record_json}
use Rattle.recipe_drill.specs.Files.{context_json, recipes_json}
use Rattle.recipe_drill.proofs.RecordRoom.{drawn_record-le, draws-small}

records-le : (start a n : ℕ) → a + n ≤ 2000 → sum_by (λ i. item_length (record_json start i)) (range_with_len a n) ≤ n * 1201
records-le start a zero within = omega arith
records-le start a (suc n) within =
    omega (arith, sum_by-cons (λ i. item_length (record_json start i)) a (range_with_len (a + 1) n), drawn_record-le (draws start a) a (draws-small start a) (omega (arith, within)), records-le start (a + 1) n (omega (arith, within)))

pub recipes-le : (start count : ℕ) → 0 < count → count ≤ 2000 → length (text_of (recipes_json start count)) ≤ 4194304
unfolding recipes_json escape_byte
recipes-le start count some most =
    let numbers = range_with_len 0 count in
    let records = list (items_of (map (record_json start) numbers)) in
    let length_of_records = length-items (record_json start) numbers (omega (arith, some, length-range_with_len 0 count)) in
    omega (arith, length-object ((codes "data", records) ∷ []) (omega arith), length_of_records, records-le start 0 count (omega (arith, most)), most)

pub context-le : length (text_of context_json) ≤ 4194304
unfolding context_json escape_byte
context-le = omega arith
