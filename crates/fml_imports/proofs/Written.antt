-- Members that are written in order.
use Rattle.std.proofs.Common.{◌≡◌, ℕ, zero, suc, ◌<◌, List, [], ◌∷◌, length, get_or, take, Less, Option, Some, None, sym, subst, arith}
use Rattle.std.specs.Cmp.Lexicographic.{slice_cmp}
use Rattle.std.specs.Ordering.{nat_cmp}
use Rattle.json_tree.specs.Json.{Json, IsAbove}
use Rattle.fml_types.specs.Named.{IsBelow, AreRising}
use Rattle.fml_imports.specs.Single.{members_json, given}

-- a key is above the one that is given, where that is there
pub above_given : (key first : List ℕ) (o : Option Json) → slice_cmp nat_cmp first key ≡ Less → IsAbove key (given first o)
above_given key first None less = tt
above_given key first (Some x) less = (less, tt)

below_at : {T : Type 0} (k : List ℕ) (ps : List (List ℕ × T)) (i : ℕ) (d : List ℕ × T) → i < length ps → IsBelow k ps → slice_cmp nat_cmp k (get_or ps i d).0 ≡ Less
below_at k [] i d h below = absurd (omega arith)
below_at k (p ∷ ps) zero d h below = below.0
below_at k (p ∷ ps) (suc i) d h below = below_at k ps i d (omega arith) below.1

above_at : {T : Type 0} (value : T → Json) (ps : List (List ℕ × T)) (i : ℕ) (d : List ℕ × T) → i < length ps → AreRising ps → IsAbove (get_or ps i d).0 (members_json value (take i ps))
above_at value [] i d h rising = absurd (omega arith)
above_at value (p ∷ ps) zero d h rising = tt
above_at value (p ∷ ps) (suc i) d h rising = (below_at p.0 ps i d (omega arith) rising.0, above_at value ps i d (omega arith) rising.1)

-- a name is above those before it
pub above_before : {T : Type 0} (value : T → Json) (ps : List (List ℕ × T)) (i : ℕ) (p : List ℕ × T) → i < length ps → p ≡ get_or ps i p → AreRising ps → IsAbove p.0 (members_json value (take i ps))
above_before value ps i p h is rising = subst (λ q. IsAbove q.0 (members_json value (take i ps))) (sym is) (above_at value ps i p h rising)
