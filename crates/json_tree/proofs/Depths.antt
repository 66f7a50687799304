-- Each child is no deeper than all of them.
use Rattle.std.proofs.Common.{◌≡◌, ℕ, zero, suc, ◌<◌, ◌≤◌, List, [], ◌∷◌, map, length, get_or, sym, subst, arith}
use Rattle.json_tree.specs.Json.{Json, depth, items_depth, members_depth, items_of, members_of}
use Rattle.json_tree.proofs.Pairs.{keyed}

depth_at : {A : Type 0} (value : A → Json) (vs : List A) (i : ℕ) (d : A) → i < length vs → depth (value (get_or vs i d)) ≤ items_depth (items_of (map value vs))
depth_at value [] i d h = absurd (omega arith)
depth_at value (v ∷ vs) zero d h = omega arith
depth_at value (v ∷ vs) (suc i) d h = omega (arith, depth_at value vs i d (omega arith))

member_depth_at : {A : Type 0} (value : A → Json) (ms : List (List ℕ × A)) (i : ℕ) (d : List ℕ × A) → i < length ms → depth (value (get_or ms i d).1) ≤ members_depth (members_of (map (keyed value) ms))
member_depth_at value [] i d h = absurd (omega arith)
member_depth_at value (m ∷ ms) zero d h = omega arith
member_depth_at value (m ∷ ms) (suc i) d h = omega (arith, member_depth_at value ms i d (omega arith))

-- the item at a place of the list
pub depth_within : {A : Type 0} (value : A → Json) (vs : List A) (xs : List Json) (i : ℕ) (v : A) → map value vs ≡ xs → i < length vs → v ≡ get_or vs i v → depth (value v) ≤ items_depth (items_of xs)
depth_within value vs xs i v same h is =
    subst (λ ys. depth (value v) ≤ items_depth (items_of ys)) same (subst (λ w. depth (value w) ≤ items_depth (items_of (map value vs))) (sym is) (depth_at value vs i v h))

-- the member at a place of the object
pub member_depth_within : {A : Type 0} (value : A → Json) (ms : List (List ℕ × A)) (xs : List (List ℕ × Json)) (i : ℕ) (m : List ℕ × A) → map (keyed value) ms ≡ xs → i < length ms → m ≡ get_or ms i m → depth (value m.1) ≤ members_depth (members_of xs)
member_depth_within value ms xs i m same h is =
    subst (λ ys. depth (value m.1) ≤ members_depth (members_of ys)) same (subst (λ n. depth (value n.1) ≤ members_depth (members_of (map (keyed value) ms))) (sym is) (member_depth_at value ms i m h))
