-- Trees beside the values that they become.
use Rattle.std.proofs.Common.{◌≡◌, ℕ, List, [], ◌∷◌, map, refl, ap}
use Rattle.json_tree.specs.Json.{Json, item, member, items_of, members_of, IsAbove}
use Rattle.json_tree.specs.Tree.{json_of, member_of}
use Rattle.json_tree.specs.declared.tree.Tree.{Tree}
use Rattle.jexl_value.specs.Meaning.{without_odd, items_without_odd, members_without_odd}

abbrev pub value_json : Tree → Json
value_json t = without_odd (json_of t)

abbrev pub member_value : List ℕ × Tree → List ℕ × Json
member_value m = (m.0, without_odd (json_of m.1))

pub items_without_odd-map : (ts : List Tree) → items_of (map value_json ts) ≡ items_without_odd (items_of (map json_of ts))
items_without_odd-map [] = refl
items_without_odd-map (t ∷ ts) = ap (item (value_json t)) (items_without_odd-map ts)

pub members_without_odd-map : (ms : List (List ℕ × Tree)) → members_of (map member_value ms) ≡ members_without_odd (members_of (map member_of ms))
members_without_odd-map [] = refl
members_without_odd-map (m ∷ ms) = ap (member m.0 (value_json m.1)) (members_without_odd-map ms)

-- the names stay
pub IsAbove-values : (k : List ℕ) (ms : List (List ℕ × Tree)) → IsAbove k (map member_of ms) → IsAbove k (map member_value ms)
IsAbove-values k [] h = tt
IsAbove-values k (m ∷ ms) h = (h.0, IsAbove-values k ms h.1)
