-- Names that get values.
use Rattle.std.specs.Prelude.{◌≡◌, ◌<◌, ◌≤◌, ℕ, List, [], ◌∷◌, length, None, option_map, Result, Ok, Err, slice_get, slice_set}
use Rattle.std.specs.List.{insert}
use Rattle.std.specs.Cmp.Lexicographic.{slice_cmp}
use Rattle.std.specs.Ordering.{nat_cmp}
use Rattle.std.specs.declared.cmp.Ordering.{Ordering}
use Rattle.std.specs.declared.cmp.Ordering.TheVariants.{Less, Equal, Greater}
use Rattle.json_tree.specs.Json.{Json, members_of, get_member}

-- a name that gets a value, as it compares with the first of the names, and the later ones with it
abbrev pub beside : Ordering → List ℕ × Json → List ℕ × Json → List (List ℕ × Json) → List (List ℕ × Json) → List (List ℕ × Json)
beside Less new first others later = new ∷ first ∷ others
beside Equal new first others later = new ∷ others
beside Greater new first others later = first ∷ later

-- the names in order with this one and its value, in place of one that it had
abbrev pub with_member : List ℕ → Json → List (List ℕ × Json) → List (List ℕ × Json)
with_member k x [] = (k, x) ∷ []
with_member k x (m ∷ ms) = beside (slice_cmp nat_cmp k m.0) (k, x) m ms (with_member k x ms)

-- where the name stands, or would stand
abbrev pub IsPlace : List ℕ → List (List ℕ × Json) → Result ℕ ℕ → Type 0
IsPlace k ms (Ok i) = (i < length ms) × (get_member k (members_of ms) ≡ option_map (λ m. m.1) (slice_get ms i)) × ((x : Json) → with_member k x ms ≡ slice_set ms i (k, x))
IsPlace k ms (Err i) = (i ≤ length ms) × (get_member k (members_of ms) ≡ None) × ((x : Json) → with_member k x ms ≡ insert ms i (k, x))
