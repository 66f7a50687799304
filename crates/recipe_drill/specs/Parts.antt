-- The five parts of a drill.
use Rattle.std.specs.Prelude.{◌≤◌, ℕ, List, length, codes}
use Rattle.json_tree.specs.Bytes.{text_of}
use Rattle.recipe_drill.specs.declared.drill.Drill.{Drill}
use Rattle.recipe_drill.specs.Files.{script, manifest_json, context_json, recipes_json}

-- the bytes of each part
pub record Parts : Type 0 where
  pub id : List ℕ
  pub script : List ℕ
  pub manifest : List ℕ
  pub context : List ℕ
  pub recipes : List ℕ

abbrev pub parts_of : Drill → Parts
parts_of d = record { id = d.id; script = d.script; manifest = d.manifest; context = d.context; recipes = d.recipes }

abbrev pub drill_id : List ℕ
drill_id = codes "00000000-0000-4000-8000-000000000000"

-- the drill that begins at `start` and has `count` records
abbrev pub drill : ℕ → ℕ → Parts
drill start count = record { id = drill_id; script = script; manifest = text_of manifest_json; context = text_of context_json; recipes = text_of (recipes_json start count) }

-- the most bytes that a file may have
abbrev pub most_bytes : ℕ
most_bytes = 4194304

-- no file is longer than a file may be
pub record HasRoom (d : Drill) : Type 0 where
  pub manifest : length d.manifest ≤ most_bytes
  pub context : length d.context ≤ most_bytes
  pub recipes : length d.recipes ≤ most_bytes
