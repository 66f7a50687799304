-- The rows of a state in the order of their keys, and its encoding: the batch that makes a store of them.
use Rattle.std.specs.Prelude.{ℕ, List, [], ◌∷◌, ◌++◌, map, Option, Some, None, codes}
use Rattle.std.specs.Option.{is_some}
use Rattle.row_batches.specs.Batch.{batch_text, whole_of}
use Rattle.row_batches.specs.declared.store_row.StoreRow.{StoreRow}
use Rattle.recipe_reader.specs.declared.recipe.Recipe.{Recipe}
use Rattle.enrol_states.specs.declared.state.State.{State}
use Rattle.enrol_states.specs.declared.state.Row.{Row}
use Rattle.state_values.specs.Statuses.{number, status_bytes}
pub use Rattle.state_values.specs.Values.{hyphenated, recipe_text, bit, participation_byte}

-- the recipes that are pending, if any are
abbrev pub pending_recipes : Option (List Recipe) → List Recipe
pending_recipes None = []
pending_recipes (Some rs) = rs

-- ---- rows

abbrev pub row : List ℕ → List ℕ → StoreRow
row key value = record { key = key; value = value }

-- the row of an item of a list: its key is a letter and the item's text
abbrev pub item_row : {A : Type 0} → (A → List ℕ) → (A → List ℕ) → ℕ → A → StoreRow
item_row text value tag x = row (tag ∷ text x) (value x)

-- the row of a feature or a slug, which has no value
abbrev pub key_row : List ℕ → List ℕ → StoreRow
key_row tag rest = row (tag ++ rest) []

abbrev pub recipe_row : List ℕ → Recipe → StoreRow
recipe_row tag r = row (tag ++ r.slug) (recipe_text r)

abbrev pub status_row : Row → StoreRow
status_row r = row (codes "r" ++ r.slug) (status_bytes r.status)

-- the moments and the version
abbrev pub last_rows : State → List StoreRow
last_rows s = row (codes "t") (number s.installed) ∷ row (codes "u") (number s.updated) ∷ row (codes "v") s.version ∷ []

-- the byte of participation, whether recipes are pending, and the rows of its statuses
abbrev pub status_rows : ℕ → State → List StoreRow
status_rows byte s = row (codes "p") (byte ∷ []) ∷ row (codes "q") (bit (is_some s.pending) ∷ []) ∷ map status_row s.rows

-- the rows behind those of recipes
abbrev pub rows_behind_recipes : ℕ → State → List StoreRow
rows_behind_recipes byte s = map (key_row (codes "o")) s.opted_out ++ (status_rows byte s ++ last_rows s)

-- the first rows of a state, of the features that recipes of one kind may share: their keys begin with 'c'
unfoldable pub first_rows : State → List StoreRow
first_rows s = map (key_row (codes "c")) s.coenrolling

-- all others, where this is the byte of participation: their keys begin with a letter from 'i' on
unfoldable pub later_rows : ℕ → State → List StoreRow
later_rows byte s =
    row (codes "i") (hyphenated s.id) ∷ (map (recipe_row (codes "l")) s.live
    ++ (map (recipe_row (codes "n")) (pending_recipes s.pending)
    ++ rows_behind_recipes byte s))

-- the rows of a state, where this is the byte of participation
unfoldable pub rows_with : ℕ → State → List StoreRow
rows_with byte s = first_rows s ++ later_rows byte s

abbrev pub rows_of : State → List StoreRow
rows_of s = rows_with (participation_byte s) s

unfoldable pub encoding : State → List ℕ
encoding s = batch_text (whole_of (rows_of s))
