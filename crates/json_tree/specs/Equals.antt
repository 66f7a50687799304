-- Values are equal exactly where they are one.
use Rattle.std.proofs.Common.{◌≡◌, Bool, true, false, ◌&&◌, refl, ap, ap₂, subst}
use Rattle.std.specs.Bool.{Decides}
use Rattle.std.specs.Cmp.{IsEquivalence, decided, signed_Decides, first_so, second_so}
use Rattle.std.specs.Cmp.Lexicographic.{bytes_decides}
use Rattle.std.specs.Prelude.{bytes_eq}
use Rattle.json_tree.specs.Json.{Json, null, truth, whole, odd, text, list, object, Items, no_items, item, Members, no_members, member}
use Rattle.json_tree.specs.Tree.{json_of}
use Rattle.json_tree.specs.Equal.{bool_eq, json_eq, items_eq, members_eq}
use Rattle.json_tree.specs.declared.tree.Tree.{Tree}
use Rattle.json_tree.specs.Inverse.{json_of-injective}

bool_eq-one : (a b : Bool) → bool_eq a b ≡ true → a ≡ b
bool_eq-one true true e = refl
bool_eq-one false false e = refl
bool_eq-one true false e = absurd (cc)
bool_eq-one false true e = absurd (cc)

bool_eq-refl : (a : Bool) → bool_eq a a ≡ true
bool_eq-refl true = refl
bool_eq-refl false = refl

mutual
  pub json_eq-one : (x y : Json) → json_eq x y ≡ true → x ≡ y
  json_eq-one null null e = refl
  json_eq-one (truth a) (truth b) e = ap truth (bool_eq-one a b e)
  json_eq-one (whole m) (whole n) e = ap whole ((signed_Decides m n).0 e)
  json_eq-one odd odd e = refl
  json_eq-one (text s) (text t) e = ap text ((bytes_decides s t).0 e)
  json_eq-one (list xs) (list ys) e = ap list (items_eq-one xs ys e)
  json_eq-one (object ms) (object ns) e = ap object (members_eq-one ms ns e)
  json_eq-one x y e = absurd (cc)

  items_eq-one : (xs ys : Items) → items_eq xs ys ≡ true → xs ≡ ys
  items_eq-one no_items no_items e = refl
  items_eq-one (item x xs) (item y ys) e = ap₂ item (json_eq-one x y (first_so _ _ e)) (items_eq-one xs ys (second_so (json_eq x y) _ e))
  items_eq-one xs ys e = absurd (cc)

  members_eq-one : (ms ns : Members) → members_eq ms ns ≡ true → ms ≡ ns
  members_eq-one no_members no_members e = refl
  members_eq-one (member k x ms) (member l y ns) e =
      let first = first_so (bytes_eq k l && json_eq x y) (members_eq ms ns) e in
      let name = (bytes_decides k l).0 (first_so (bytes_eq k l) (json_eq x y) first) in
      let value = json_eq-one x y (second_so (bytes_eq k l) (json_eq x y) first) in
      let rest = members_eq-one ms ns (second_so (bytes_eq k l && json_eq x y) (members_eq ms ns) e) in
      λ i. member (name i) (value i) (rest i)
  members_eq-one ms ns e = absurd (cc)

mutual
  pub json_eq-refl : (x : Json) → json_eq x x ≡ true
  json_eq-refl null = refl
  json_eq-refl (truth b) = bool_eq-refl b
  json_eq-refl (whole n) = (signed_Decides n n).1 refl
  json_eq-refl odd = refl
  json_eq-refl (text s) = (bytes_decides s s).1 refl
  json_eq-refl (list xs) = items_eq-refl xs
  json_eq-refl (object ms) = members_eq-refl ms

  items_eq-refl : (xs : Items) → items_eq xs xs ≡ true
  items_eq-refl no_items = refl
  items_eq-refl (item x xs) = ap₂ (λ a b. a && b) (json_eq-refl x) (items_eq-refl xs)

  members_eq-refl : (ms : Members) → members_eq ms ms ≡ true
  members_eq-refl no_members = refl
  members_eq-refl (member k x ms) = ap₂ (λ a b. a && b) (ap₂ (λ a b. a && b) ((bytes_decides k k).1 refl) (json_eq-refl x)) (members_eq-refl ms)

pub json_eq-Decides : (x y : Json) → Decides (json_eq x y) (x ≡ y)
json_eq-Decides x y = (json_eq-one x y, λ same. subst (λ z. json_eq x z ≡ true) same (json_eq-refl x))

-- trees are equal exactly where they are one
pub trees-Decide : (t u : Tree) → Decides (json_eq (json_of t) (json_of u)) (t ≡ u)
trees-Decide t u =
    (λ e. json_of-injective t u (json_eq-one (json_of t) (json_of u) e), λ same. (json_eq-Decides (json_of t) (json_of u)).1 (ap json_of same))

pub tree_equivalence : IsEquivalence (λ t u. json_eq (json_of t) (json_of u))
tree_equivalence = decided _ trees-Decide
