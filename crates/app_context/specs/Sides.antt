-- The members on either side of a key.
use Rattle.std.specs.Prelude.{ℕ, Bool, true, false, List, [], ◌∷◌, filter, ⊤}
use Rattle.std.specs.Cmp.Lexicographic.{slice_cmp}
use Rattle.std.specs.Ordering.{nat_cmp}
use Rattle.std.specs.declared.cmp.Ordering.{Ordering}
use Rattle.std.specs.declared.cmp.Ordering.TheVariants.{Less, Equal, Greater}
use Rattle.json_tree.specs.Json.{Json, IsBelow, members_of}
use Rattle.app_context.specs.declared.events.Side.{Side}
use Rattle.app_context.specs.declared.events.Side.TheVariants.{Below, Above}

-- whether what compares so with a key stands on this side of it
abbrev pub stands : Side → Ordering → Bool
stands Below Less = true
stands Below Equal = false
stands Below Greater = false
stands Above Less = false
stands Above Equal = false
stands Above Greater = true

abbrev pub is_on : Side → List ℕ → List ℕ → Bool
is_on side key name = stands side (slice_cmp nat_cmp name key)

-- the members on this side of the key
abbrev pub those : Side → List ℕ → List (List ℕ × Json) → List (List ℕ × Json)
those side key ms = filter (λ m. is_on side key m.0) ms

-- the keys rise
abbrev pub Rises : List (List ℕ × Json) → Type 0
Rises [] = ⊤
Rises (m ∷ ms) = IsBelow m.0 (members_of ms) × Rises ms
