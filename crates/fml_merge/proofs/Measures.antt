-- How far a walk over types, trees and levels of objects still goes.
use Rattle.std.proofs.Common.{◌≡◌, ℕ, zero, suc, ◌+◌, ◌*◌, ◌<◌, ◌≤◌, List, [], ◌∷◌, length, get_or, ◌-◌, Option as Maybe, Some, None, option_map, Bor, Bool, true, false, refl, sym, ap, ◌∙◌, arith}
use Rattle.std.specs.Prelude.{bytes_eq, if◌then◌else◌}
use Rattle.json_tree.specs.Json.{depth}
use Rattle.json_tree.specs.Tree.{json_of}
use Rattle.json_tree.specs.declared.tree.Tree.{Tree}
use Rattle.fml_types.specs.Ground.{greatest}
use Rattle.fml_types.specs.Named.{found}
use Rattle.fml_types.specs.Shape as shape
use Rattle.fml_types.specs.Shape.{Shape, height}
use Rattle.fml_types.specs.Shapes.{shape_of}
use Rattle.fml_types.specs.declared.field_type.FieldType.{FieldType}
use Rattle.fml_types.specs.declared.manifest.Field.{Field}
use Rattle.fml_types.specs.declared.manifest.ObjectDefinition.{ObjectDefinition}
use Rattle.fml_types.specs.declared.manifest.TypeTable.{TypeTable}
use Rattle.fml_merge.specs.Overlay.{item_type}
use Rattle.fml_value.specs.Kinds.{is_key}
use Rattle.fml_merge.specs.Highest.{highest, highest_type, member_height}
use Rattle.fml_merge.specs.Merging.{types_of}
use Rattle.fml_merge.specs.declared.parts.MemberTypes.{MemberTypes}
use Rattle.fml_merge.specs.declared.parts.MemberTypes.TheVariants as member

-- ---- the greatest of what is listed

one_of : {T : Type 0} (f : T → ℕ) (xs : List T) (i : ℕ) (d : T) → i < length xs → f (get_or xs i d) ≤ greatest f xs
one_of f [] i d h = absurd (omega arith)
one_of f (x ∷ xs) zero d h = omega arith
one_of f (x ∷ xs) (suc i) d h = omega (arith, one_of f xs i d (omega arith))

found_one : {T : Type 0} (f : List ℕ × T → ℕ) (g : T → ℕ) → ((p : List ℕ × T) → f p ≡ g p.1) → (name : List ℕ) (ps : List (List ℕ × T)) (x : T) → found name ps ≡ Some x → g x ≤ greatest f ps
found_one f g same name [] x e = absurd cc
found_one f g same name (p ∷ ps) x e = one (bytes_eq p.0 name) (λ h. found_one f g same name ps x h) e
  where
    one : (b : Bool) → (found name ps ≡ Some x → g x ≤ greatest f ps) → (if b then Some p.1 else found name ps) ≡ Some x → g x ≤ greatest f (p ∷ ps)
    one true rest h = let here : p.1 ≡ x = cc in let value : g p.1 ≡ g x = ap g here in omega (arith, same p, value)
    one false rest h = omega (arith, rest h)

-- ---- what bounds the types and the defaults of a table

-- more than all types within one level of a tree
pub step : TypeTable → ℕ
step types = 8 * highest types + 20

abbrev default_depth : Maybe Tree → ℕ
default_depth None = 0
default_depth (Some tree) = depth (json_of tree)

pub field_weight : TypeTable → Field → ℕ
field_weight types f = step types * default_depth f.default + 8 * height (shape_of f.field_type) + 10

pub fields_weight : TypeTable → List (List ℕ × Field) → ℕ
fields_weight types fields = greatest (λ f. field_weight types f.1) fields

-- more than the fields of an object
pub level : TypeTable → ℕ
level types = greatest (λ o. fields_weight types o.1.fields) types.objects + 4

-- the greater of two numbers
abbrev pub greater : ℕ → ℕ → ℕ
greater a b = a + (b - a)

-- ---- what is within them

pub step_most : (types : TypeTable) → 8 * highest types + 20 ≤ step types
unfolding step
step_most types = omega arith

pub object_highest : (types : TypeTable) (name : List ℕ) (o : ObjectDefinition) → found name types.objects ≡ Some o → highest_type o.fields ≤ highest types
unfolding highest
object_highest types name o e = found_one (λ (p : List ℕ × ObjectDefinition). highest_type p.1.fields) (λ (x : ObjectDefinition). highest_type x.fields) (λ p. refl) name types.objects o e

pub field_highest : (fields : List (List ℕ × Field)) (name : List ℕ) (f : Field) → found name fields ≡ Some f → height (shape_of f.field_type) ≤ highest_type fields
unfolding highest_type
field_highest fields name f e = found_one (λ (p : List ℕ × Field). height (shape_of p.1.field_type)) (λ (x : Field). height (shape_of x.field_type)) (λ p. refl) name fields f e

pub object_level : (types : TypeTable) (name : List ℕ) (o : ObjectDefinition) → found name types.objects ≡ Some o → fields_weight types o.fields + 4 ≤ level types
unfolding level
object_level types name o e = omega (arith, found_one (λ (p : List ℕ × ObjectDefinition). fields_weight types p.1.fields) (λ (x : ObjectDefinition). fields_weight types x.fields) (λ p. refl) name types.objects o e)

pub one_field : (types : TypeTable) (fields : List (List ℕ × Field)) (i : ℕ) (d : List ℕ × Field) → i < length fields → field_weight types (get_or fields i d).1 ≤ fields_weight types fields
unfolding fields_weight
one_field types fields i d h = one_of (λ (p : List ℕ × Field). field_weight types p.1) fields i d h

pub one_type : (fields : List (List ℕ × Field)) (i : ℕ) (d : List ℕ × Field) → i < length fields → height (shape_of (get_or fields i d).1.field_type) ≤ highest_type fields
unfolding highest_type
one_type fields i d h = one_of (λ (p : List ℕ × Field). height (shape_of p.1.field_type)) fields i d h

pub with_tree : (types : TypeTable) (f : Field) (tree : Tree) → f.default ≡ Some tree → step types * depth (json_of tree) + 8 * height (shape_of f.field_type) + 10 ≡ field_weight types f
unfolding field_weight
with_tree types f tree e = sym (ap (λ o. step types * default_depth o + 8 * height (shape_of f.field_type) + 10) e)

pub some_weight : (types : TypeTable) (f : Field) → 10 ≤ field_weight types f
unfolding field_weight
some_weight types f = omega arith

pub item_height : (t : Shape) → height (item_type t) ≤ height t
item_height (shape.list t) = omega arith
item_height shape.boolean = omega arith
item_height shape.int = omega arith
item_height shape.string = omega arith
item_height shape.text = omega arith
item_height shape.image = omega arith
item_height (shape.option t) = omega arith
item_height (shape.map k t) = omega arith
item_height (shape.named n) = omega arith

-- what `get` gives of an object
pub object_high : (types : TypeTable) (name : List ℕ) (got : Maybe (Bor ObjectDefinition)) (o : Bor ObjectDefinition) → option_map (λ (v : Bor ObjectDefinition). v.now) got ≡ found name types.objects → got ≡ Some o → highest_type o.now.fields ≤ highest types
object_high types name got o e is = object_highest types name o.now (sym e ∙ ap (option_map (λ (v : Bor ObjectDefinition). v.now)) is)

some_field : (fields : List (List ℕ × Field)) (name : List ℕ) (u : Shape) (o : Maybe Field) → found name fields ≡ o → option_map (λ (f : Field). shape_of f.field_type) o ≡ Some u → height u ≤ highest_type fields
some_field fields name u None e is = absurd cc
some_field fields name u (Some f) e is = let same : shape_of f.field_type ≡ u = cc in let high : height (shape_of f.field_type) ≡ height u = ap height same in omega (arith, high, field_highest fields name f e)

type_high : (types : TypeTable) (members : MemberTypes) (name : List ℕ) (u : Shape) → types_of types members name ≡ Some u → height u ≤ member_height members
type_high types member.Nothing name u e = absurd cc
type_high types (member.Entries key of) name u e = one (is_key types _ name) e
  where
    one : (b : Bool) → (if b then Some (shape_of of.now) else None) ≡ Some u → height u ≤ height (shape_of of.now)
    one true h = let same : shape_of of.now ≡ u = cc in let high : height (shape_of of.now) ≡ height u = ap height same in omega (arith, high)
    one false h = absurd cc
type_high types (member.Fields fields) name u e = some_field fields.now name u (found name fields.now) refl e

-- the type that a name has
pub member_high : (types : TypeTable) (members : MemberTypes) (name : List ℕ) (got : Maybe (Bor FieldType)) (of : Bor FieldType) → option_map (λ (t : Bor FieldType). shape_of t.now) got ≡ types_of types members name → got ≡ Some of → height (shape_of of.now) ≤ member_height members
member_high types members name got of e is = type_high types members name (shape_of of.now) (sym e ∙ ap (option_map (λ (t : Bor FieldType). shape_of t.now)) is)

pub one_deeper : (b d : ℕ) → b * suc d ≡ b * d + b
one_deeper b d = omega arith

pub one_level : (a n : ℕ) → 0 < n → a * n ≡ a * (n - 1) + a
one_level a zero h = absurd (omega arith)
one_level a (suc n) h = let same : suc n - 1 ≡ n = omega arith in one_deeper a n ∙ sym (ap (λ m. a * m + a) same)
