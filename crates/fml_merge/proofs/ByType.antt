-- Zeros and laying by the kind of the type.
use Rattle.std.proofs.Common.{◌≡◌, ℕ, true, false, List as Seq, Option as Maybe, Some, None, refl, sym, ap, ◌∙◌}
use Rattle.std.specs.Prelude.{if◌then◌else◌}
use Rattle.json_tree.specs.Json as json
use Rattle.json_tree.specs.Json.{Json}
use Rattle.fml_types.specs.Named.{found}
use Rattle.fml_types.specs.Shape as shape
use Rattle.fml_types.specs.Shape.{Shape}
use Rattle.fml_types.specs.Sound.{IsSoundType}
use Rattle.fml_types.specs.declared.manifest.EnumDefinition.{EnumDefinition}
use Rattle.fml_types.specs.declared.manifest.ObjectDefinition.{ObjectDefinition}
use Rattle.fml_types.specs.declared.manifest.TypeTable.{TypeTable}
use Rattle.fml_value.specs.Fits.{type_of_field}
use Rattle.fml_value.specs.Kinds.{is_null}
use Rattle.fml_value.specs.Takes.{takes, takes_named}
use Rattle.fml_value.specs.Typed.{TypedValue, present, list, variant, object, entries_of}
use Rattle.fml_merge.specs.Laws.{ValuesHaveTypes, FeaturesHaveTypes, ZerosByType, LayingByType}
use Rattle.fml_merge.specs.Overlay.{held, laid, items_laid, members_laid, pairs_in, fields_of}
use Rattle.fml_merge.specs.Zero.{zero_named, object_zero, zero_of, overlay}
use Rattle.fml_merge.proofs.Levels.{zeros_typed, low_objects}
use Rattle.fml_merge.proofs.Stable.{zero_over}
use Rattle.fml_merge.proofs.Typing.{over_typed, sound_scope}
use Rattle.fml_merge.proofs.Variables.{default_typed, overlay_typed}

pub values_typed : ValuesHaveTypes
values_typed types t table grounded sound =
    let zeros = zeros_typed types table (low_objects types grounded) in (
      zeros t sound,
      λ base x typed whole. over_typed types (zero_of types) (IsSoundType types) (sound_scope types table) zeros t base x sound typed whole,
    )

pub features_typed : FeaturesHaveTypes
features_typed m f table grounded fields = (λ entries. default_typed m f table grounded fields entries, λ base x typed sound. overlay_typed m f table grounded fields base x typed sound)

pub zeros_are : (types : TypeTable) → ZerosByType types
zeros_are types = record {
  of_boolean = refl;
  of_int = refl;
  of_string = refl;
  of_text = refl;
  of_image = refl;
  of_option = λ t. refl;
  of_list = λ t. refl;
  of_map = λ k t. refl;
  of_enum = λ n e is. ap (λ (o : Maybe EnumDefinition). zero_named o (object_zero types 32 n)) is;
  of_object = λ n o grounded none there. zero_over types n o (low_objects types grounded) none there;
}

odd_untaken : (types : TypeTable) (t : Shape) → takes types t json.odd ≡ true → ⊥
odd_untaken types (shape.option t) taken = odd_untaken types t taken
odd_untaken types shape.boolean taken = cc
odd_untaken types shape.int taken = cc
odd_untaken types shape.string taken = cc
odd_untaken types shape.text taken = cc
odd_untaken types shape.image taken = cc
odd_untaken types (shape.list t) taken = cc
odd_untaken types (shape.map key t) taken = cc
odd_untaken types (shape.named n) taken = none (found n types.enums) (found n types.objects) taken
  where
    none : (e : Maybe EnumDefinition) (o : Maybe ObjectDefinition) → takes_named e o json.odd ≡ true → ⊥
    none None None h = cc
    none None (Some o) h = cc
    none (Some e) o h = cc

module _ (types : TypeTable) where
  option_laid : (t : Shape) (base : TypedValue) (x : Json) → laid (zero_of types) types (shape.option t) base x ≡ present (laid (zero_of types) types t (held base (zero_of types t)) x) → is_null x ≡ false → takes types t x ≡ true
      → (if takes types t x then laid (zero_of types) types (shape.option t) base x else base) ≡ present (overlay types t (held base (zero_of types t)) x)
  option_laid t base x inside other taken =
      let under = held base (zero_of types t) in
      ap (λ b. if b then laid (zero_of types) types (shape.option t) base x else base) taken ∙ inside
      ∙ sym (ap (λ b. present (if b then laid (zero_of types) types t under x else under)) taken)

  of_option : (t : Shape) (base : TypedValue) (x : Json) → is_null x ≡ false → takes types t x ≡ true → overlay types (shape.option t) base x ≡ present (overlay types t (held base (zero_of types t)) x)
  of_option t base json.null other taken = absurd (cc)
  of_option t base (json.truth b) other taken = option_laid t base (json.truth b) refl other taken
  of_option t base (json.whole n) other taken = option_laid t base (json.whole n) refl other taken
  of_option t base json.odd other taken = absurd (odd_untaken types t taken)
  of_option t base (json.text s) other taken = option_laid t base (json.text s) refl other taken
  of_option t base (json.list xs) other taken = option_laid t base (json.list xs) refl other taken
  of_option t base (json.object ms) other taken = option_laid t base (json.object ms) refl other taken

  of_object : (n : Seq ℕ) (o : ObjectDefinition) (base : TypedValue) (ms : json.Members) → found n types.enums ≡ None → found n types.objects ≡ Some o
      → overlay types (shape.named n) base (json.object ms) ≡ object (entries_of (members_laid (zero_of types) types (type_of_field o.fields) (pairs_in base) ms))
  of_object n o base ms none there =
      let over : Maybe ObjectDefinition → TypedValue = λ d. object (entries_of (members_laid (zero_of types) types (type_of_field (fields_of d)) (pairs_in base) ms)) in
      ap (λ (e : Maybe EnumDefinition). if takes_named e (found n types.objects) (json.object ms) then over (found n types.objects) else base) none
      ∙ ap (λ (d : Maybe ObjectDefinition). if takes_named None d (json.object ms) then over d else base) there

  pub laying_is : LayingByType types
  laying_is = record {
    of_none = λ t base x untaken. ap (λ b. if b then laid (zero_of types) types t base x else base) untaken;
    of_boolean = λ base b. refl;
    of_int = λ base n. refl;
    of_string = λ base s. refl;
    of_text = λ base s. refl;
    of_image = λ base s. refl;
    of_enum = λ n e base s is named. ap (λ (d : Maybe EnumDefinition). if takes_named d (found n types.objects) (json.text s) then variant s else base) is ∙ ap (λ b. if b then variant s else base) named;
    of_null = λ t base. refl;
    of_option = of_option;
    of_list = λ t base xs taken. ap (λ b. if b then list (items_laid (zero_of types) types t xs) else base) taken;
    of_map = λ k t base ms. refl;
    of_object = of_object;
  }
