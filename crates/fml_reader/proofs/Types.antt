-- A type is the type of its shape.
use Rattle.std.proofs.Common.{◌≡◌, refl}
use Rattle.fml_types.specs.Shapes.{key_of, key_from, shape_of, type_from}
use Rattle.fml_types.specs.declared.field_type.Key.{Key}
use Rattle.fml_types.specs.declared.field_type.Key.TheVariants as keys
use Rattle.fml_types.specs.declared.field_type.FieldType.{FieldType}
use Rattle.fml_types.specs.declared.field_type.FieldType.TheVariants as types
use Rattle.std.proofs.Common.{ap}

same_keys : (k : Key) → key_from (key_of k) ≡ k
same_keys keys.String = refl
same_keys (keys.Named n) = refl

pub same_types : (t : FieldType) → type_from (shape_of t) ≡ t
same_types types.Boolean = refl
same_types types.Int = refl
same_types types.String = refl
same_types types.Text = refl
same_types types.Image = refl
same_types (types.Option s) = refl
same_types (types.List s) = refl
same_types (types.Map k s) = ap (λ l. types.Map l s) (same_keys k)
same_types (types.Named n) = refl
