-- What a value of a type is, at every level.
use Rattle.std.specs.Prelude.{◌≡◌, ℕ, suc, max, ℤ, Bool, List, [], ◌∷◌}
use Rattle.std.proofs.Common.{refl, sym, ap, ap₂, ◌∙◌}
use Rattle.std.specs.Coded.{Coded}
use Rattle.json_tree.specs.Json as json
use Rattle.json_tree.specs.Json.{Json, json_code}

mutual
  pub data TypedValue : Type 0 where
    truth : Bool → TypedValue
    whole : ℤ → TypedValue
    text : List ℕ → TypedValue
    absent : TypedValue
    present : TypedValue → TypedValue
    list : TypedItems → TypedValue
    map : TypedEntries → TypedValue
    variant : List ℕ → TypedValue
    object : TypedEntries → TypedValue

  pub data TypedItems : Type 0 where
    no_items : TypedItems
    item : TypedValue → TypedItems → TypedItems

  pub data TypedEntries : Type 0 where
    no_entries : TypedEntries
    entry : List ℕ → TypedValue → TypedEntries → TypedEntries

-- the items and the entries as this type has them
abbrev pub items_of : List TypedValue → TypedItems
items_of [] = no_items
items_of (v ∷ vs) = item v (items_of vs)

abbrev pub entries_of : List (List ℕ × TypedValue) → TypedEntries
entries_of [] = no_entries
entries_of (e ∷ es) = entry e.0 e.1 (entries_of es)

-- how many values stand inside one another
abbrev mutual
  pub height : TypedValue → ℕ
  height (truth b) = 0
  height (whole n) = 0
  height (text s) = 0
  height absent = 0
  height (present v) = suc (height v)
  height (list vs) = suc (items_height vs)
  height (map es) = suc (entries_height es)
  height (variant s) = 0
  height (object es) = suc (entries_height es)

  pub items_height : TypedItems → ℕ
  items_height no_items = 0
  items_height (item v vs) = max (height v) (items_height vs)

  pub entries_height : TypedEntries → ℕ
  entries_height no_entries = 0
  entries_height (entry name v es) = max (height v) (entries_height es)

-- ---- how the logic stores a value, as a JSON value, and how it is found again

abbrev mutual
  stored : TypedValue → Json
  stored (truth b) = json.truth b
  stored (whole n) = json.whole n
  stored (text s) = json.text s
  stored absent = json.null
  stored (present v) = json.list (json.item json.null (json.item (stored v) json.no_items))
  stored (list vs) = json.list (json.item json.odd (stored_items vs))
  stored (map es) = json.object (json.member [] json.null (stored_entries es))
  stored (variant s) = json.list (json.item (json.text s) json.no_items)
  stored (object es) = json.object (json.member [] json.odd (stored_entries es))

  stored_items : TypedItems → json.Items
  stored_items no_items = json.no_items
  stored_items (item v vs) = json.item (stored v) (stored_items vs)

  stored_entries : TypedEntries → json.Members
  stored_entries no_entries = json.no_members
  stored_entries (entry name v es) = json.member name (stored v) (stored_entries es)

abbrev mutual
  found : Json → TypedValue
  found json.null = absent
  found (json.truth b) = truth b
  found (json.whole n) = whole n
  found json.odd = absent
  found (json.text s) = text s
  found (json.list xs) = found_list xs
  found (json.object ms) = found_object ms

  found_list : json.Items → TypedValue
  found_list (json.item json.null (json.item x xs)) = present (found x)
  found_list (json.item (json.text s) xs) = variant s
  found_list (json.item json.odd xs) = list (found_items xs)
  found_list xs = absent

  found_items : json.Items → TypedItems
  found_items json.no_items = no_items
  found_items (json.item x xs) = item (found x) (found_items xs)

  found_object : json.Members → TypedValue
  found_object (json.member k json.null ms) = map (found_entries ms)
  found_object (json.member k json.odd ms) = object (found_entries ms)
  found_object ms = absent

  found_entries : json.Members → TypedEntries
  found_entries json.no_members = no_entries
  found_entries (json.member k x ms) = entry k (found x) (found_entries ms)

mutual
  value-found : (v : TypedValue) → found (stored v) ≡ v
  value-found (truth b) = refl
  value-found (whole n) = refl
  value-found (text s) = refl
  value-found absent = refl
  value-found (present v) = ap present (value-found v)
  value-found (list vs) = ap list (items-found vs)
  value-found (map es) = ap map (entries-found es)
  value-found (variant s) = refl
  value-found (object es) = ap object (entries-found es)

  items-found : (vs : TypedItems) → found_items (stored_items vs) ≡ vs
  items-found no_items = refl
  items-found (item v vs) = ap₂ item (value-found v) (items-found vs)

  entries-found : (es : TypedEntries) → found_entries (stored_entries es) ≡ es
  entries-found no_entries = refl
  entries-found (entry name v es) = ap₂ (entry name) (value-found v) (entries-found es)

pub code-one : (v w : TypedValue) → json_code.code (stored v) ≡ json_code.code (stored w) → v ≡ w
code-one v w e = sym (value-found v) ∙ ap found (json_code.inj (stored v) (stored w) e) ∙ value-found w

abbrev pub value_code : Coded TypedValue
value_code = record { code = λ v. json_code.code (stored v); inj = code-one }
