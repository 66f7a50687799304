-- How many bytes a state is encoded in, and how many of them its recipes, the slugs that are opted out and the rows take.
use Rattle.std.specs.Prelude.{◌≡◌, ◌+◌, ℕ, List, [], ◌∷◌, codes, length, map}
use Rattle.recipe_reader.specs.declared.recipe.Recipe.{Recipe}
use Rattle.enrol_states.specs.declared.state.State.{State}
use Rattle.enrol_states.specs.declared.state.Row.{Row}
use Rattle.row_batches.specs.Batch.{puts_text}
use Rattle.state_values.specs.Values.{recipe_text}
use Rattle.state_codec.specs.Encoding.{key_row, status_row, pending_recipes, encoding}
use Rattle.state_codec.specs.declared.size.StateSizes.{StateSizes}

-- the put of a recipe's row: its frame, the key's letter and the slug, and the record's text
abbrev pub recipe_size : Recipe → ℕ
recipe_size r = 8 + length r.slug + length (recipe_text r)

abbrev pub recipes_size : List Recipe → ℕ
recipes_size [] = 0
recipes_size (r ∷ rs) = recipe_size r + recipes_size rs

-- the puts of opted-out slugs' rows
abbrev pub slugs_size : List (List ℕ) → ℕ
slugs_size slugs = length (puts_text (map (key_row (codes "o")) slugs))

-- and those of statuses
abbrev pub rows_size : List Row → ℕ
rows_size rows = length (puts_text (map status_row rows))

-- these are the sizes of the state's encoding, of its live and pending recipes, of the slugs that are opted out, and of its rows
pub record IsSizeOf (s : State) (sizes : StateSizes) : Type 0 where
  pub total : sizes.total ≡ length (encoding s)
  pub live : sizes.live ≡ recipes_size s.live
  pub pending : sizes.pending ≡ recipes_size (pending_recipes s.pending)
  pub opted_out : sizes.opted_out ≡ slugs_size s.opted_out
  pub rows : sizes.rows ≡ rows_size s.rows
