-- The value of a sound type that a tree is.
use Rattle.std.proofs.Common.{◌≡◌, ℕ, suc, Bool, true, false, not, ◌&&◌, List, [], ◌∷◌, Option, Some, None, refl, sym, ap, ap₂, ◌∙◌, subst, arith}
use Rattle.std.specs.Prelude.{All, bytes_eq, if◌then◌else◌}
use Rattle.json_tree.specs.Json as json
use Rattle.json_tree.specs.Json.{Json}
use Rattle.fml_types.specs.Named.{found}
use Rattle.fml_types.specs.Shape as shape
use Rattle.fml_types.specs.Shape.{Shape}
use Rattle.fml_types.specs.Shapes.{shape_of}
use Rattle.fml_types.specs.Sound.{IsSoundTable, IsSoundType, AreSoundFields, has_single_options}
use Rattle.fml_types.specs.TypeTexts.{is_option}
use Rattle.fml_types.specs.declared.manifest.Field.{Field}
use Rattle.fml_types.specs.declared.manifest.ObjectDefinition.{ObjectDefinition}
use Rattle.fml_types.specs.declared.manifest.TypeTable.{TypeTable}
use Rattle.fml_value.specs.Checks.{wrapped}
use Rattle.fml_value.specs.Fits as fitting
use Rattle.fml_value.specs.Fits.{bare}
use Rattle.fml_value.specs.HasType.{HasType, HaveType, AreEntries, AreFields}
use Rattle.fml_value.specs.Kinds.{is_null}
use Rattle.fml_value.specs.Trees.{tree_of, trees_of, members_of}
use Rattle.fml_value.specs.Typed.{TypedValue, truth, whole, text, absent, present, list, map, variant, object, TypedItems, no_items, item, TypedEntries, no_entries, entry}
use Rattle.fml_value.proofs.Taken.{tree-there, of-object}

-- ---- the value of a type that a tree is, found by the tree's parts

abbrev text_as : Shape → List ℕ → TypedValue
text_as (shape.named n) s = variant s
text_as t s = text s

abbrev list_as : Shape → (Shape → TypedItems) → TypedValue
list_as (shape.list t) vs = list (vs t)
list_as t vs = absent

abbrev fields_named : Option ObjectDefinition → List (List ℕ × Field)
fields_named None = []
fields_named (Some o) = o.fields

abbrev object_as : TypeTable → Shape → (Shape → TypedEntries) → (List (List ℕ × Field) → TypedEntries) → TypedValue
object_as types (shape.map key t) es fs = map (es t)
object_as types (shape.named n) es fs = object (fs (fields_named (found n types.objects)))
object_as types t es fs = absent

abbrev mutual
  pub value_from : TypeTable → Shape → Json → TypedValue
  value_from types t json.null = absent
  value_from types t json.odd = wrapped t absent
  value_from types t (json.truth b) = wrapped t (truth b)
  value_from types t (json.whole n) = wrapped t (whole n)
  value_from types t (json.text s) = wrapped t (text_as (bare t) s)
  value_from types t (json.list xs) = wrapped t (list_as (bare t) (λ u. items_from types u xs))
  value_from types t (json.object ms) = wrapped t (object_as types (bare t) (λ u. entries_from types u ms) (λ fields. fields_from types fields ms))

  items_from : TypeTable → Shape → json.Items → TypedItems
  items_from types t json.no_items = no_items
  items_from types t (json.item x xs) = item (value_from types t x) (items_from types t xs)

  entries_from : TypeTable → Shape → json.Members → TypedEntries
  entries_from types t json.no_members = no_entries
  entries_from types t (json.member k x ms) = entry k (value_from types t x) (entries_from types t ms)

  fields_from : TypeTable → List (List ℕ × Field) → json.Members → TypedEntries
  fields_from types fields json.no_members = no_entries
  fields_from types [] (json.member k x ms) = no_entries
  fields_from types (f ∷ fs) (json.member k x ms) = entry k (value_from types (shape_of f.1.field_type) x) (fields_from types fs ms)

-- ---- each value of a sound type is found from its tree

inside : (types : TypeTable) (t : Shape) (x : Json) → is_null x ≡ false → value_from types (shape.option t) x ≡ present (value_from types t x)
inside types t json.null h = absurd cc
inside types t (json.truth b) h = refl
inside types t (json.whole n) h = refl
inside types t json.odd h = refl
inside types t (json.text s) h = refl
inside types t (json.list xs) h = refl
inside types t (json.object ms) h = refl

pub all_found : {T : Type 0} (P : T → Type 0) (name : List ℕ) (ps : List (List ℕ × T)) (d : T) → All (λ (p : List ℕ × T). P p.1) ps → found name ps ≡ Some d → P d
all_found P name [] d h e = absurd cc
all_found P name (p ∷ ps) d h e = step (bytes_eq p.0 name) e (all_found P name ps d (λ k x less. h (suc k) x (omega arith)))
  where
    step : (b : Bool) → (if b then Some p.1 else found name ps) ≡ Some d → (found name ps ≡ Some d → P d) → P d
    step true same rest = let here : p.1 ≡ d = cc in subst P here (h 0 p (omega arith))
    step false same rest = rest same

no_option : (t : Shape) → is_option t ≡ false → fitting.is_option t ≡ false
no_option shape.boolean h = refl
no_option shape.int h = refl
no_option shape.string h = refl
no_option shape.text h = refl
no_option shape.image h = refl
no_option (shape.option t) h = absurd cc
no_option (shape.list t) h = refl
no_option (shape.map key t) h = refl
no_option (shape.named name) h = refl

single : (b c : Bool) → (not b && c) ≡ true → (b ≡ false) × (c ≡ true)
single true c h = absurd cc
single false c h = (refl, h)

mutual
  pub value-found : (types : TypeTable) → IsSoundTable types → (t : Shape) (v : TypedValue) → has_single_options t ≡ true → HasType types t v → value_from types t (tree_of v) ≡ v
  value-found types table shape.boolean (truth b) s h = refl
  value-found types table shape.int (whole n) s h = refl
  value-found types table shape.string (text n) s h = refl
  value-found types table shape.text (text n) s h = refl
  value-found types table shape.image (text n) s h = refl
  value-found types table (shape.option t) absent s h = refl
  value-found types table (shape.option t) (present v) s h =
      let parts = single (is_option t) (has_single_options t) s in
      inside types t (tree_of v) (tree-there types t v (no_option t parts.0) h) ∙ ap present (value-found types table t v parts.1 h)
  value-found types table (shape.list t) (list vs) s h = ap list (items-found types table t vs s h)
  value-found types table (shape.map key t) (map es) s h = ap map (entries-found types table key t es s h.1)
  value-found types table (shape.named n) (variant m) s h = refl
  value-found types table (shape.named n) (object es) s h =
      let o = of-object (found n types.enums) (found n types.objects) _ h in
      let sound = all_found (λ (d : ObjectDefinition). AreSoundFields types d.fields) n types.objects o.0 table.fields o.1 in
      ap object (ap (λ d. fields_from types (fields_named d) (members_of es)) o.1 ∙ fields-found types table o.0.fields es sound o.2)
  value-found types table t v s h = absurd h

  items-found : (types : TypeTable) → IsSoundTable types → (t : Shape) (vs : TypedItems) → has_single_options t ≡ true → HaveType types t vs → items_from types t (trees_of vs) ≡ vs
  items-found types table t no_items s h = refl
  items-found types table t (item v vs) s h = ap₂ item (value-found types table t v s h.0) (items-found types table t vs s h.1)

  entries-found : (types : TypeTable) → IsSoundTable types → (key : Option (List ℕ)) (t : Shape) (es : TypedEntries) → has_single_options t ≡ true → AreEntries types key t es → entries_from types t (members_of es) ≡ es
  entries-found types table key t no_entries s h = refl
  entries-found types table key t (entry name v es) s h = ap₂ (entry name) (value-found types table t v s h.1) (entries-found types table key t es s h.2)

  fields-found : (types : TypeTable) → IsSoundTable types → (fields : List (List ℕ × Field)) (es : TypedEntries) → AreSoundFields types fields → AreFields types fields es → fields_from types fields (members_of es) ≡ es
  fields-found types table [] no_entries sound h = refl
  fields-found types table (f ∷ fs) (entry name v es) sound h =
      ap₂ (entry name) (value-found types table (shape_of f.1.field_type) v (sound 0 f (omega arith)).of_type.options h.1) (fields-found types table fs es (λ k d less. sound (suc k) d (omega arith)) h.2)
  fields-found types table fields es sound h = absurd h

pub one_value : (types : TypeTable) (t : Shape) (v w : TypedValue) → IsSoundTable types → IsSoundType types t → HasType types t v → HasType types t w → tree_of v ≡ tree_of w → v ≡ w
one_value types t v w table sound first second same =
    sym (value-found types table t v sound.options first) ∙ ap (value_from types t) same ∙ value-found types table t w sound.options second
