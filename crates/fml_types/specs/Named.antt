-- Names in order, and what stands under them.
use Rattle.std.specs.Prelude.{◌≡◌, ◌≤◌, ◌||◌, ℕ, suc, Bool, false, List, [], ◌∷◌, length, take, drop, Option, Some, None, ⊤, bytes_eq, option_map, if◌then◌else◌}
use Rattle.std.specs.Cmp.Lexicographic.{slice_cmp}
use Rattle.std.specs.Ordering.{nat_cmp, is_lt}
use Rattle.std.specs.declared.cmp.Ordering.TheVariants.{Less}

-- the name is above each of these
abbrev pub IsAbove : {T : Type 0} → List ℕ → List (List ℕ × T) → Type 0
IsAbove name [] = ⊤
IsAbove name (p ∷ ps) = (slice_cmp nat_cmp p.0 name ≡ Less) × IsAbove name ps

-- the name is below each of these
abbrev pub IsBelow : {T : Type 0} → List ℕ → List (List ℕ × T) → Type 0
IsBelow name [] = ⊤
IsBelow name (p ∷ ps) = (slice_cmp nat_cmp name p.0 ≡ Less) × IsBelow name ps

abbrev pub AreRising : {T : Type 0} → List (List ℕ × T) → Type 0
AreRising [] = ⊤
AreRising (p ∷ ps) = IsBelow p.0 ps × AreRising ps

-- what stands under the name
abbrev pub found : {T : Type 0} → List ℕ → List (List ℕ × T) → Option T
found name [] = None
found name (p ∷ ps) = if bytes_eq p.0 name then Some p.1 else found name ps

-- where the name stands
abbrev pub place : {T : Type 0} → List ℕ → List (List ℕ × T) → Option ℕ
place name [] = None
place name (p ∷ ps) = if bytes_eq p.0 name then Some 0 else option_map suc (place name ps)

abbrev pub has_name : {T : Type 0} → List ℕ → List (List ℕ × T) → Bool
has_name name [] = false
has_name name (p ∷ ps) = bytes_eq p.0 name || has_name name ps

-- the pairs with one more, at its place
abbrev pub with_name : {T : Type 0} → List ℕ × T → List (List ℕ × T) → List (List ℕ × T)
with_name p [] = p ∷ []
with_name p (q ∷ qs) = if is_lt (slice_cmp nat_cmp p.0 q.0) then p ∷ q ∷ qs else q ∷ with_name p qs

-- the name belongs before the i-th pair
abbrev pub IsPlace : {T : Type 0} → List ℕ → List (List ℕ × T) → ℕ → Type 0
IsPlace name ps i = (i ≤ length ps) × IsAbove name (take i ps) × IsBelow name (drop i ps)
