-- How many objects stand in items and members, one more at a time.
use Rattle.std.proofs.Common.{◌≡◌, ℕ, zero, suc, ◌+◌, ◌<◌, List, [], ◌∷◌, map, length, get_or, take, false, refl, sym, ap, ◌∙◌, arith, add-one}
use Rattle.json_tree.specs.Json.{items_of, members_of}
use Rattle.json_tree.specs.Tree.{json_of, member_of}
use Rattle.json_tree.specs.declared.tree.Tree.{Tree}
use Rattle.fml_types.specs.Graph.{has_no_items, has_no_members, objects_in, objects_in_items, objects_in_members}
use Rattle.fml_types.specs.Capped.{cap}

items_more : (ts : List Tree) (i : ℕ) (d : Tree) → i < length ts → objects_in_items (items_of (map json_of (take (suc i) ts))) ≡ objects_in_items (items_of (map json_of (take i ts))) + objects_in (json_of (get_or ts i d))
items_more [] i d h = absurd (omega arith)
items_more (t ∷ ts) zero d h = omega arith
items_more (t ∷ ts) (suc i) d h = omega (arith, items_more ts i d (omega arith))

members_more : (ms : List (List ℕ × Tree)) (i : ℕ) (d : List ℕ × Tree) → i < length ms → objects_in_members (members_of (map member_of (take (suc i) ms))) ≡ objects_in_members (members_of (map member_of (take i ms))) + objects_in (json_of (get_or ms i d).1)
members_more [] i d h = absurd (omega arith)
members_more (m ∷ ms) zero d h = omega arith
members_more (m ∷ ms) (suc i) d h = omega (arith, members_more ms i d (omega arith))

cap-sum : (m n : ℕ) → cap (cap m + cap n) ≡ cap (m + n)
cap-sum m n = omega arith

pub one_more_item : (ts : List Tree) (i : ℕ) (t : Tree) (count grown : ℕ) → i < length ts → t ≡ get_or ts i t → count ≡ cap (objects_in_items (items_of (map json_of (take i ts)))) → grown ≡ cap (count + cap (objects_in (json_of t)))
    → grown ≡ cap (objects_in_items (items_of (map json_of (take (i + 1) ts))))
one_more_item ts i t count grown h is so_far grows =
    grows ∙ ap (λ n. cap (n + cap (objects_in (json_of t)))) so_far ∙ cap-sum _ (objects_in (json_of t)) ∙ ap (λ u. cap (objects_in_items (items_of (map json_of (take i ts))) + objects_in (json_of u))) is
    ∙ ap cap (sym (items_more ts i t h)) ∙ ap (λ k. cap (objects_in_items (items_of (map json_of (take k ts))))) (sym (add-one i))

pub one_more_member : (ms : List (List ℕ × Tree)) (i : ℕ) (m : List ℕ × Tree) (count grown : ℕ) → i < length ms → m ≡ get_or ms i m → count ≡ cap (objects_in_members (members_of (map member_of (take i ms)))) → grown ≡ cap (count + cap (objects_in (json_of m.1)))
    → grown ≡ cap (objects_in_members (members_of (map member_of (take (i + 1) ms))))
one_more_member ms i m count grown h is so_far grows =
    grows ∙ ap (λ n. cap (n + cap (objects_in (json_of m.1)))) so_far ∙ cap-sum _ (objects_in (json_of m.1)) ∙ ap (λ (u : List ℕ × Tree). cap (objects_in_members (members_of (map member_of (take i ms))) + objects_in (json_of u.1))) is
    ∙ ap cap (sym (members_more ms i m h)) ∙ ap (λ k. cap (objects_in_members (members_of (map member_of (take k ms))))) (sym (add-one i))

pub some_items : (ts : List Tree) → 0 < length ts → false ≡ has_no_items (items_of (map json_of ts))
some_items [] h = absurd (omega arith)
some_items (t ∷ ts) h = refl

pub some_members : (ms : List (List ℕ × Tree)) → 0 < length ms → false ≡ has_no_members (members_of (map member_of ms))
some_members [] h = absurd (omega arith)
some_members (m ∷ ms) h = refl
