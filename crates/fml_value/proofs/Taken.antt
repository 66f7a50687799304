-- A type takes the trees of its values.
use Rattle.std.proofs.Common.{◌≡◌, ℕ, true, false, ◌&&◌, List, Option, Some, None, refl, sym, ap, ap₂, ◌∙◌}
use Rattle.std.specs.Prelude.{IsTrue}
use Rattle.std.proofs.lemmas.Bool.{or_right}
use Rattle.json_tree.specs.Json as json
use Rattle.json_tree.specs.Json.{Json}
use Rattle.fml_types.specs.Named.{found}
use Rattle.fml_types.specs.Shape as shape
use Rattle.fml_types.specs.Shape.{Shape}
use Rattle.fml_types.specs.declared.manifest.EnumDefinition.{EnumDefinition}
use Rattle.fml_types.specs.declared.manifest.Field.{Field}
use Rattle.fml_types.specs.declared.manifest.ObjectDefinition.{ObjectDefinition}
use Rattle.fml_types.specs.declared.manifest.TypeTable.{TypeTable}
use Rattle.fml_value.specs.Fits.{is_option}
use Rattle.fml_value.specs.HasType.{HasType, HaveType, OfObject}
use Rattle.fml_value.specs.Kinds.{is_null, is_variant_of}
use Rattle.fml_value.specs.Takes.{takes, takes_named, all_items}
use Rattle.fml_value.specs.Trees.{tree_of, trees_of, HasNoValue}
use Rattle.fml_value.specs.Typed.{TypedValue, truth, whole, text, absent, present, list, map, variant, object, TypedItems, no_items, item}

variant-taken : (e : Option EnumDefinition) (o : Option ObjectDefinition) (s : List ℕ) → IsTrue (is_variant_of e s) → takes_named e o (json.text s) ≡ true
variant-taken None o s h = absurd cc
variant-taken (Some e) o s h = h

object-taken : (e : Option EnumDefinition) (o : Option ObjectDefinition) (Has : List (List ℕ × Field) → Type 0) (ms : json.Members) → OfObject e o Has → takes_named e o (json.object ms) ≡ true
object-taken None None Has ms h = absurd h
object-taken None (Some o) Has ms h = refl
object-taken (Some e) None Has ms h = absurd h
object-taken (Some e) (Some o) Has ms h = absurd h

mutual
  pub taken : (types : TypeTable) (t : Shape) (v : TypedValue) → HasType types t v → takes types t (tree_of v) ≡ true
  taken types shape.boolean (truth b) h = refl
  taken types shape.int (whole n) h = refl
  taken types shape.string (text s) h = refl
  taken types shape.text (text s) h = refl
  taken types shape.image (text s) h = refl
  taken types (shape.option t) absent h = refl
  taken types (shape.option t) (present v) h = or_right (is_null (tree_of v)) _ (taken types t v h)
  taken types (shape.list t) (list vs) h = all_taken types t vs h
  taken types (shape.map key t) (map es) h = refl
  taken types (shape.named name) (variant s) h = variant-taken (found name types.enums) (found name types.objects) s h
  taken types (shape.named name) (object es) h = object-taken (found name types.enums) (found name types.objects) _ _ h
  taken types t v h = absurd h

  all_taken : (types : TypeTable) (t : Shape) (vs : TypedItems) → HaveType types t vs → all_items (takes types t) (trees_of vs) ≡ true
  all_taken types t no_items h = refl
  all_taken types t (item v vs) h = ap₂ (λ a b. a && b) (taken types t v h.0) (all_taken types t vs h.1)

-- a tree that the type doesn't take is no value's
pub none-taken : (types : TypeTable) (t : Shape) (x : Json) → takes types t x ≡ false → HasNoValue types t x
none-taken types t x h v has same = absurd (not-both (sym (taken types t v has) ∙ ap (takes types t) same ∙ h))
  where
    not-both : true ≡ false → ⊥
    not-both e = cc

null-named : (e : Option EnumDefinition) (o : Option ObjectDefinition) → takes_named e o json.null ≡ false
null-named None None = refl
null-named None (Some o) = refl
null-named (Some e) o = refl

-- an option alone takes null
pub null-refused : (types : TypeTable) (t : Shape) → is_option t ≡ false → takes types t json.null ≡ false
null-refused types shape.boolean h = refl
null-refused types shape.int h = refl
null-refused types shape.string h = refl
null-refused types shape.text h = refl
null-refused types shape.image h = refl
null-refused types (shape.option t) h = absurd cc
null-refused types (shape.list t) h = refl
null-refused types (shape.map key t) h = refl
null-refused types (shape.named name) h = null-named (found name types.enums) (found name types.objects)

other-tree : (types : TypeTable) (t : Shape) (x : Json) → takes types t json.null ≡ false → takes types t x ≡ true → is_null x ≡ false
other-tree types t json.null refused h = absurd cc
other-tree types t (json.truth b) refused h = refl
other-tree types t (json.whole n) refused h = refl
other-tree types t json.odd refused h = refl
other-tree types t (json.text s) refused h = refl
other-tree types t (json.list xs) refused h = refl
other-tree types t (json.object ms) refused h = refl

-- the tree of a value of another type isn't null
pub tree-there : (types : TypeTable) (t : Shape) (v : TypedValue) → is_option t ≡ false → HasType types t v → is_null (tree_of v) ≡ false
tree-there types t v h has = other-tree types t (tree_of v) (null-refused types t h) (taken types t v has)

-- what an object's value has
pub of-object : (e : Option EnumDefinition) (o : Option ObjectDefinition) (Has : List (List ℕ × Field) → Type 0) → OfObject e o Has → (d : ObjectDefinition) × (o ≡ Some d) × Has d.fields
of-object None None Has h = absurd h
of-object None (Some o) Has h = (o, refl, h)
of-object (Some e) None Has h = absurd h
of-object (Some e) (Some o) Has h = absurd h
