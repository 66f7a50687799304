-- Which values count as true, which of two comes first, and the value that a JSON value is.
use Rattle.std.specs.Prelude.{zero, pos, Bool, true, false, [], Option, Some, None}
use Rattle.std.specs.Cmp.Lexicographic.{slice_cmp}
use Rattle.std.specs.Ordering.{nat_cmp, int_cmp}
use Rattle.std.specs.declared.cmp.Ordering.{Ordering}
use Rattle.json_tree.specs.Json.{Json, null, truth, whole, odd, text, list, object, Items, no_items, item, Members, no_members, member}

-- null, false, 0 and the empty text count as false, and all else as true
abbrev pub is_truthy : Json → Bool
is_truthy null = false
is_truthy (truth b) = b
is_truthy (whole (pos zero)) = false
is_truthy (text []) = false
is_truthy _ = true

-- the order of two numbers, or of two texts by their bytes; other values have none
abbrev pub order_of : Json → Json → Option Ordering
order_of (whole m) (whole n) = Some (int_cmp m n)
order_of (text s) (text t) = Some (slice_cmp nat_cmp s t)
order_of _ _ = None

-- the value with null for each number that is no `i64`
abbrev mutual
  pub without_odd : Json → Json
  without_odd null = null
  without_odd (truth b) = truth b
  without_odd (whole n) = whole n
  without_odd odd = null
  without_odd (text s) = text s
  without_odd (list xs) = list (items_without_odd xs)
  without_odd (object ms) = object (members_without_odd ms)

  pub items_without_odd : Items → Items
  items_without_odd no_items = no_items
  items_without_odd (item x xs) = item (without_odd x) (items_without_odd xs)

  pub members_without_odd : Members → Members
  members_without_odd no_members = no_members
  members_without_odd (member k x ms) = member k (without_odd x) (members_without_odd ms)
