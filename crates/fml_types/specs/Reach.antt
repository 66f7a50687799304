-- Which objects mention which, and values that are raised along mentions.
use Rattle.std.specs.Prelude.{◌≡◌, ◌≤◌, ◌<◌, ℕ, List, [], ◌∷◌, ◌++◌, length, map, get_or, slice_set, nat_lt, Option, Some, None, if◌then◌else◌}
use Rattle.std.specs.List.{Contains}
use Rattle.fml_types.specs.Ground.{parts_at}
use Rattle.fml_types.specs.Values.{value_in}
use Rattle.fml_types.specs.declared.graph.Part.{Part}

-- some field of these mentions the object at a place
abbrev pub Mentions : List Part → ℕ → Type 0
Mentions ps j = Contains (map (λ (p : Part). p.mentions) ps) (Some j)

-- the list at a place
abbrev pub row : List (List ℕ) → ℕ → List ℕ
row rows j = get_or rows j []

-- the list of each object has the objects that mention it, and no other
pub record AreMentioned (g : List (List Part)) (rows : List (List ℕ)) : Type 0 where
  pub count : length rows ≡ length g
  pub only : (j i : ℕ) → Contains (row rows j) i → Mentions (parts_at g i) j
  pub all : (j i : ℕ) → j < length g → Mentions (parts_at g i) j → Contains (row rows j) i

-- a number at the end of the list at a place, where there is one
abbrev pub added : List (List ℕ) → ℕ → ℕ → List (List ℕ)
added rows j i = slice_set rows j (row rows j ++ i ∷ [])

abbrev pub entered_one : Option ℕ → ℕ → List (List ℕ) → List (List ℕ)
entered_one None i rows = rows
entered_one (Some j) i rows = added rows j i

-- an object in the list of each that its fields mention
abbrev pub entered : List Part → ℕ → List (List ℕ) → List (List ℕ)
entered [] i rows = rows
entered (p ∷ ps) i rows = entered ps i (entered_one p.mentions i rows)

-- no object of the list at a place has a lesser value than the object there
abbrev pub Closed : List (List ℕ) → (ℕ → ℕ) → ℕ → Type 0
Closed rows v j = (i : ℕ) → Contains (row rows j) i → v j ≤ v i

-- values that rise, closed at a place and wherever the old ones are, and below all that are closed everywhere and not below the old ones
pub record Raised (rows : List (List ℕ)) (place : ℕ) (old new : List ℕ) : Type 0 where
  pub count : length new ≡ length old
  pub rises : (i : ℕ) → value_in old i ≤ value_in new i
  pub here : Closed rows (value_in new) place
  pub kept : (j : ℕ) → Closed rows (value_in old) j → Closed rows (value_in new) j
  pub least : (u : ℕ → ℕ) → ((j : ℕ) → Closed rows u j) → ((i : ℕ) → value_in old i ≤ u i) → (i : ℕ) → value_in new i ≤ u i

-- values, and the objects that were raised and not looked at since
abbrev pub raised_one : ℕ → ℕ → List ℕ × List ℕ → List ℕ × List ℕ
raised_one value x s = if nat_lt (value_in s.0 x) value then (slice_set s.0 x value, s.1 ++ x ∷ []) else s

abbrev pub raised_all : ℕ → List ℕ → List ℕ × List ℕ → List ℕ × List ℕ
raised_all value [] s = s
raised_all value (x ∷ xs) s = raised_all value xs (raised_one value x s)
