-- The trees of values in a list, and of entries.
use Rattle.std.proofs.Common.{◌≡◌, ℕ, List, [], ◌∷◌, map, refl, ap}
use Rattle.json_tree.specs.Json as json
use Rattle.json_tree.specs.Json.{Json}
use Rattle.fml_types.specs.Named.{IsAbove}
use Rattle.fml_value.specs.Trees.{tree_of, trees_of, members_of}
use Rattle.fml_value.specs.Typed.{TypedValue, items_of, entries_of}
use Rattle.fml_value.specs.TypedOf.{typed_of, entry_of}
use Rattle.fml_value.specs.declared.value.Value.{Value}

abbrev pub value_tree : Value → Json
value_tree v = tree_of (typed_of v)

abbrev pub entry_tree : List ℕ × Value → List ℕ × Json
entry_tree e = (e.0, tree_of (typed_of e.1))

abbrev pub typed_entry_tree : List ℕ × TypedValue → List ℕ × Json
typed_entry_tree e = (e.0, tree_of e.1)

pub trees-map : (vs : List TypedValue) → trees_of (items_of vs) ≡ json.items_of (map tree_of vs)
trees-map [] = refl
trees-map (v ∷ vs) = ap (json.item (tree_of v)) (trees-map vs)

pub members-map : (es : List (List ℕ × TypedValue)) → members_of (entries_of es) ≡ json.members_of (map typed_entry_tree es)
members-map [] = refl
members-map (e ∷ es) = ap (json.member e.0 (tree_of e.1)) (members-map es)

pub trees-of-values : (vs : List Value) → json.items_of (map value_tree vs) ≡ trees_of (items_of (map typed_of vs))
trees-of-values [] = refl
trees-of-values (v ∷ vs) = ap (json.item (value_tree v)) (trees-of-values vs)

pub members-of-entries : (es : List (List ℕ × Value)) → json.members_of (map entry_tree es) ≡ members_of (entries_of (map entry_of es))
members-of-entries [] = refl
members-of-entries (e ∷ es) = ap (json.member e.0 (value_tree e.1)) (members-of-entries es)

-- a name above these entries' is above their trees'
pub above-trees : (k : List ℕ) (es : List (List ℕ × Value)) → IsAbove k (map entry_of es) → json.IsAbove k (map entry_tree es)
above-trees k [] h = tt
above-trees k (e ∷ es) h = (h.0, above-trees k es h.1)
