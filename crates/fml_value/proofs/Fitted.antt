-- The trees of values fit their types.
use Rattle.std.proofs.Common.{◌≡◌, ℕ, Bool, true, false, ◌&&◌, List, [], ◌∷◌, Option, Some, None, option_map, refl, ap, ap₂, ◌∙◌}
use Rattle.std.specs.Prelude.{All, ⊤, bytes_eq, if◌then◌else◌}
use Rattle.std.specs.Cmp.Lexicographic.{texts_ties, bytes_decides}
use Rattle.std.specs.Ordering.{is_eq}
use Rattle.json_tree.specs.Json as json
use Rattle.json_tree.specs.Json.{Json}
use Rattle.fml_types.specs.Named.{found, IsBelow, AreRising}
use Rattle.fml_types.specs.Shape as shape
use Rattle.fml_types.specs.Shape.{Shape}
use Rattle.fml_types.specs.Shapes.{shape_of}
use Rattle.fml_types.specs.declared.manifest.EnumDefinition.{EnumDefinition}
use Rattle.fml_types.specs.declared.manifest.Field.{Field}
use Rattle.fml_types.specs.declared.manifest.ObjectDefinition.{ObjectDefinition}
use Rattle.fml_types.specs.declared.manifest.TypeTable.{TypeTable}
use Rattle.fml_value.specs.Fits.{fits, items_fit, members_fit, of_named, of_member, type_of_entry, type_of_field}
use Rattle.fml_value.specs.HasType.{HasType, HaveType, AreEntries, AreFields, OfObject}
use Rattle.fml_value.specs.Trees.{tree_of, trees_of, members_of}
use Rattle.fml_value.specs.Typed.{TypedValue, truth, whole, text, absent, present, list, map, variant, object, TypedItems, no_items, item, TypedEntries, no_entries, entry}
use Rattle.fml_value.proofs.OneValue.{all_found}

-- each of these fields is the one that is found under its name
abbrev AreThere : List (List ℕ × Field) → List (List ℕ × Field) → Type 0
AreThere all [] = ⊤
AreThere all (f ∷ fs) = (found f.0 all ≡ Some f.1) × AreThere all fs

there_after : (p : List ℕ × Field) (all fs : List (List ℕ × Field)) → IsBelow p.0 fs → AreThere all fs → AreThere (p ∷ all) fs
there_after p all [] below h = tt
there_after p all (f ∷ fs) below h =
    let other : bytes_eq p.0 f.0 ≡ false = texts_ties p.0 f.0 ∙ ap is_eq below.0 in
    (ap (λ b. if b then Some p.1 else found f.0 all) other ∙ h.0, there_after p all fs below.1 h.1)

all_there : (fs : List (List ℕ × Field)) → AreRising fs → AreThere fs fs
all_there [] rising = tt
all_there (f ∷ fs) rising =
    (ap (λ b. if b then Some f.1 else found f.0 fs) ((bytes_decides f.0 f.0).1 refl), there_after f fs fs rising.0 (all_there fs rising.1))

inside_fits : (types : TypeTable) (t : Shape) (x : Json) → fits types t x ≡ true → fits types (shape.option t) x ≡ true
inside_fits types t json.null h = refl
inside_fits types t (json.truth b) h = h
inside_fits types t (json.whole n) h = h
inside_fits types t json.odd h = h
inside_fits types t (json.text s) h = h
inside_fits types t (json.list xs) h = h
inside_fits types t (json.object ms) h = h

named_fits : (e : Option EnumDefinition) (o : Option ObjectDefinition) (Has : List (List ℕ × Field) → Type 0) (fit : (List ℕ → Option Shape) → Bool) → OfObject e o Has
    → ((d : ObjectDefinition) → o ≡ Some d → Has d.fields → fit (type_of_field d.fields) ≡ true) → of_named e o fit ≡ true
named_fits None None Has fit h k = absurd h
named_fits None (Some o) Has fit h k = k o refl h
named_fits (Some e) None Has fit h k = absurd h
named_fits (Some e) (Some o) Has fit h k = absurd h

abbrev AreInOrder : TypeTable → Type 0
AreInOrder types = All (λ (o : List ℕ × ObjectDefinition). AreRising o.1.fields) types.objects

mutual
  pub value_fits : (types : TypeTable) → AreInOrder types → (t : Shape) (v : TypedValue) → HasType types t v → fits types t (tree_of v) ≡ true
  value_fits types order shape.boolean (truth b) h = refl
  value_fits types order shape.int (whole n) h = refl
  value_fits types order shape.string (text s) h = refl
  value_fits types order shape.text (text s) h = refl
  value_fits types order shape.image (text s) h = refl
  value_fits types order (shape.option t) absent h = refl
  value_fits types order (shape.option t) (present v) h = inside_fits types t (tree_of v) (value_fits types order t v h)
  value_fits types order (shape.list t) (list vs) h = values_fit types order t vs h
  value_fits types order (shape.map key t) (map es) h = entries_fit types order key t es h.1
  value_fits types order (shape.named name) (variant s) h = h
  value_fits types order (shape.named name) (object es) h =
      named_fits (found name types.enums) (found name types.objects) (λ fields. AreFields types fields es) (λ type_of. members_fit types type_of (members_of es)) h
      (λ d there has. fields_fit types order d.fields d.fields es (all_there d.fields (all_found (λ (o : ObjectDefinition). AreRising o.fields) name types.objects d order there)) has)
  value_fits types order t v h = absurd h

  values_fit : (types : TypeTable) → AreInOrder types → (t : Shape) (vs : TypedItems) → HaveType types t vs → items_fit types t (trees_of vs) ≡ true
  values_fit types order t no_items h = refl
  values_fit types order t (item v vs) h = ap₂ (λ a b. a && b) (value_fits types order t v h.0) (values_fit types order t vs h.1)

  entries_fit : (types : TypeTable) → AreInOrder types → (key : Option (List ℕ)) (t : Shape) (es : TypedEntries) → AreEntries types key t es → members_fit types (type_of_entry types key t) (members_of es) ≡ true
  entries_fit types order key t no_entries h = refl
  entries_fit types order key t (entry name v es) h =
      ap₂ (λ a b. a && b) (ap (λ b. of_member (if b then Some t else None) (λ u. fits types u (tree_of v))) h.0 ∙ value_fits types order t v h.1) (entries_fit types order key t es h.2)

  fields_fit : (types : TypeTable) → AreInOrder types → (all fields : List (List ℕ × Field)) (es : TypedEntries) → AreThere all fields → AreFields types fields es → members_fit types (type_of_field all) (members_of es) ≡ true
  fields_fit types order all [] no_entries there h = refl
  fields_fit types order all (f ∷ fs) (entry name v es) there h =
      let found_here : found name all ≡ Some f.1 = ap (λ n. found n all) h.0 ∙ there.0 in
      ap₂ (λ a b. a && b) (ap (λ o. of_member (option_map (λ (g : Field). shape_of g.field_type) o) (λ u. fits types u (tree_of v))) found_here ∙ value_fits types order (shape_of f.1.field_type) v h.1)
      (fields_fit types order all fs es there.1 h.2)
  fields_fit types order all fields es there h = absurd h
