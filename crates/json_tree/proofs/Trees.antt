-- A JSON value is the value of its tree.
use Rattle.std.proofs.Common.{◌≡◌, refl, ap}
use Rattle.json_tree.specs.Json as json
use Rattle.json_tree.specs.Json.{Json, items_of, members_of}
use Rattle.json_tree.specs.Tree.{json_of}
use Rattle.json_tree.specs.Inverse.{items_from, members_from, tree_from}

items_of-items_from : (xs : json.Items) → items_of (items_from xs) ≡ xs
items_of-items_from json.no_items = refl
items_of-items_from (json.item x xs) = ap (json.item x) (items_of-items_from xs)

members_of-members_from : (ms : json.Members) → members_of (members_from ms) ≡ ms
members_of-members_from json.no_members = refl
members_of-members_from (json.member k x ms) = ap (json.member k x) (members_of-members_from ms)

pub same_values : (x : Json) → json_of (tree_from x) ≡ x
same_values json.null = refl
same_values (json.truth b) = refl
same_values (json.whole n) = refl
same_values json.odd = refl
same_values (json.text s) = refl
same_values (json.list xs) = ap json.list (items_of-items_from xs)
same_values (json.object ms) = ap json.object (members_of-members_from ms)
