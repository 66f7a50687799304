-- When two values are equal: the same numbers, texts, items and members in the same order.
use Rattle.std.specs.Prelude.{Bool, true, false, ◌&&◌, bytes_eq}
use Rattle.std.specs.Ordering.{int_eq}
use Rattle.json_tree.specs.Json.{Json, null, truth, whole, odd, text, list, object, Items, no_items, item, Members, no_members, member}

abbrev pub bool_eq : Bool → Bool → Bool
bool_eq true b = b
bool_eq false true = false
bool_eq false false = true

abbrev mutual
  pub json_eq : Json → Json → Bool
  json_eq null null = true
  json_eq (truth a) (truth b) = bool_eq a b
  json_eq (whole m) (whole n) = int_eq m n
  json_eq odd odd = true
  json_eq (text s) (text t) = bytes_eq s t
  json_eq (list xs) (list ys) = items_eq xs ys
  json_eq (object ms) (object ns) = members_eq ms ns
  json_eq x y = false

  pub items_eq : Items → Items → Bool
  items_eq no_items no_items = true
  items_eq (item x xs) (item y ys) = json_eq x y && items_eq xs ys
  items_eq xs ys = false

  pub members_eq : Members → Members → Bool
  members_eq no_members no_members = true
  members_eq (member k x ms) (member l y ns) = (bytes_eq k l && json_eq x y) && members_eq ms ns
  members_eq ms ns = false
