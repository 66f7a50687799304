-- What stands in a value: members, items, texts in texts.
use Rattle.std.specs.Prelude.{ℕ, zero, suc, ◌==◌, pos, Bool, true, false, ◌&&◌, ◌||◌, List, [], ◌∷◌, Option, Some, None, is_some}
use Rattle.json_tree.specs.Json.{Json, null, whole, text, list, object, Items, no_items, item, get, get_member}
use Rattle.json_tree.specs.Equal.{json_eq}

abbrev pub or_null : Option Json → Json
or_null None = null
or_null (Some x) = x

-- the object's member of this name; null where there is none, and for every other kind
abbrev pub member : List ℕ → Json → Json
member name x = or_null (get name x)

abbrev pub item_at : ℕ → Items → Option Json
item_at i no_items = None
item_at zero (item x xs) = Some x
item_at (suc i) (item x xs) = item_at i xs

-- an object's member by a text, a list's item by its place from 0, else null
abbrev pub index : Json → Json → Json
index (object ms) (text name) = or_null (get_member name ms)
index (list xs) (whole (pos i)) = or_null (item_at i xs)
index x key = null

-- a value equals one of the items
abbrev pub is_item : Json → Items → Bool
is_item x no_items = false
is_item x (item y ys) = json_eq x y || is_item x ys

-- the bytes begin with these
abbrev pub begins : List ℕ → List ℕ → Bool
begins [] bytes = true
begins (p ∷ ps) [] = false
begins (p ∷ ps) (b ∷ bs) = p == b && begins ps bs

-- these bytes stand somewhere in the bytes, one after another
abbrev pub occurs : List ℕ → List ℕ → Bool
occurs part [] = begins part []
occurs part (b ∷ bs) = begins part (b ∷ bs) || occurs part bs

-- an item of the list, a part of the text, a name of the object
abbrev pub is_inside : Json → Json → Bool
is_inside x (list xs) = is_item x xs
is_inside (text part) (text bytes) = occurs part bytes
is_inside (text name) (object ms) = is_some (get_member name ms)
is_inside x y = false
