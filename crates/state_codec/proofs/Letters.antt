-- What holds of the rows of each letter holds of the rows of a state.
use Rattle.std.proofs.Common.{◌≡◌, ◌++◌, ◌∷◌, [], List, ℕ, true, map, refl}
use Rattle.std.specs.Prelude.{◌&&◌, nat_le, nat_lt}
use Rattle.std.specs.List.{AllByRecursion}
use Rattle.std.specs.Option.{is_some}
use Rattle.recipe_reader.specs.declared.recipe.Recipe.{Recipe}
use Rattle.enrol_states.specs.declared.state.State.{State}
use Rattle.enrol_states.specs.declared.state.Row.{Row}
use Rattle.row_batches.specs.declared.store_row.StoreRow.{StoreRow}
use Rattle.state_values.specs.Statuses.{number, status_bytes}
use Rattle.state_codec.specs.Encoding.{row, key_row, recipe_row, status_row, last_rows, pending_recipes, first_rows, later_rows, hyphenated, recipe_text, bit}

pub all_append : (P : StoreRow → Type 0) (rs ss : List StoreRow) → AllByRecursion P rs → AllByRecursion P ss → AllByRecursion P (rs ++ ss)
all_append P [] ss r_are s_are = s_are
all_append P (r ∷ rs) ss r_are s_are = (r_are.0, all_append P rs ss r_are.1 s_are)

pub all_map : {A : Type 0} (P : StoreRow → Type 0) (f : A → StoreRow) (xs : List A) → ((x : A) → P (f x)) → AllByRecursion P (map f xs)
all_map P f [] each = tt
all_map P f (x ∷ xs) each = (each x, all_map P f xs each)

pub first_all : (P : StoreRow → Type 0) (s : State) → ((rest value : List ℕ) → P (row (99 ∷ rest) value)) → AllByRecursion P (first_rows s)
unfolding first_rows
first_all P s each = all_map P (key_row (99 ∷ [])) s.coenrolling (λ name. each name [])

-- the letters are from 'i' on and below 'x'
pub later_all : (P : StoreRow → Type 0) (byte : ℕ) (s : State) → ((letter : ℕ) (rest value : List ℕ) → (nat_le 105 letter && nat_lt letter 120) ≡ true → P (row (letter ∷ rest) value)) → AllByRecursion P (later_rows byte s)
unfolding later_rows
later_all P byte s each =
    let behind = all_append P (map status_row s.rows) (last_rows s) (all_map P status_row s.rows (λ (w : Row). each 114 w.slug (status_bytes w.status) refl))
    (each 116 [] (number s.installed) refl, (each 117 [] (number s.updated) refl, (each 118 [] s.version refl, tt))) in (
      each 105 [] (hyphenated s.id) refl,
      all_append P (map (recipe_row (108 ∷ [])) s.live) _ (all_map P (recipe_row (108 ∷ [])) s.live (λ (r : Recipe). each 108 r.slug (recipe_text r) refl))
          (all_append P (map (recipe_row (110 ∷ [])) (pending_recipes s.pending)) _ (all_map P (recipe_row (110 ∷ [])) (pending_recipes s.pending) (λ (r : Recipe). each 110 r.slug (recipe_text r) refl))
          (all_append P (map (key_row (111 ∷ [])) s.opted_out) _ (all_map P (key_row (111 ∷ [])) s.opted_out (λ (slug : List ℕ). each 111 slug [] refl))
          (each 112 [] (byte ∷ []) refl, (each 113 [] (bit (is_some s.pending) ∷ []) refl, behind)))),
    )
