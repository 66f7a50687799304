-- Names that get values.
use Rattle.std.specs.Prelude.{◌≡◌, ◌<◌, ◌≤◌, ℕ, List, [], ◌∷◌, length, get_or, None, option_map, Result, Ok, Err, bytes_eq, slice_get, slice_set, if◌then◌else◌}
use Rattle.std.specs.List.{insert}
use Rattle.std.specs.Cmp.Lexicographic.{slice_cmp}
use Rattle.std.specs.Ordering.{nat_cmp}
use Rattle.std.specs.declared.cmp.Ordering.{Ordering}
use Rattle.std.specs.declared.cmp.Ordering.TheVariants.{Less, Equal, Greater}
use Rattle.fml_types.specs.Named.{found}
use Rattle.fml_value.specs.Typed.{TypedValue}

-- a name that gets a value, as it compares with the first of the names, and the later ones with it
abbrev pub beside : Ordering → List ℕ × TypedValue → List ℕ × TypedValue → List (List ℕ × TypedValue) → List (List ℕ × TypedValue) → List (List ℕ × TypedValue)
beside Less new first others later = new ∷ first ∷ others
beside Equal new first others later = new ∷ others
beside Greater new first others later = first ∷ later

-- the names in order with this one and its value, in place of one that it had
abbrev pub with_entry : List ℕ → TypedValue → List (List ℕ × TypedValue) → List (List ℕ × TypedValue)
with_entry name v [] = (name, v) ∷ []
with_entry name v (e ∷ es) = beside (slice_cmp nat_cmp name e.0) (name, v) e es (with_entry name v es)

-- the names with another value under one that they have
abbrev pub replaced : List ℕ → TypedValue → List (List ℕ × TypedValue) → List (List ℕ × TypedValue)
replaced name v [] = []
replaced name v (e ∷ es) = if bytes_eq e.0 name then (name, v) ∷ es else e ∷ replaced name v es

-- the name stands at this place
pub record Stands (key : List ℕ) (es : List (List ℕ × TypedValue)) (i : ℕ) : Type 0 where
  pub within : i < length es
  pub named : (d : List ℕ × TypedValue) → (get_or es i d).0 ≡ key
  pub value : found key es ≡ option_map (λ e. e.1) (slice_get es i)
  pub entering : (v : TypedValue) → with_entry key v es ≡ slice_set es i (key, v)
  pub replacing : (v : TypedValue) → replaced key v es ≡ slice_set es i (key, v)

-- the name would stand at this place
pub record WouldStand (key : List ℕ) (es : List (List ℕ × TypedValue)) (i : ℕ) : Type 0 where
  pub within : i ≤ length es
  pub absent : found key es ≡ None
  pub entering : (v : TypedValue) → with_entry key v es ≡ insert es i (key, v)

-- where the name stands, or would stand
abbrev pub IsPlace : List ℕ → List (List ℕ × TypedValue) → Result ℕ ℕ → Type 0
IsPlace name es (Ok i) = Stands name es i
IsPlace name es (Err i) = WouldStand name es i
