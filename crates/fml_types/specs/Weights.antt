-- Each type is higher than the one inside it.
use Rattle.std.specs.Prelude.{◌≤◌}
use Rattle.std.proofs.Common.{arith}
use Rattle.fml_types.specs.Shape.{height}
use Rattle.fml_types.specs.Shapes.{shape_of}
use Rattle.fml_types.specs.declared.field_type.FieldType.{FieldType}
use Rattle.fml_types.specs.declared.field_type.FieldType.TheVariants as types
use Rattle.fml_types.specs.declared.field_type.InnerType.TheDeep.{deep-FieldType}

pub type_weight-le-height : (t : FieldType) → deep-FieldType t ≤ height (shape_of t)
type_weight-le-height types.Boolean = omega arith
type_weight-le-height types.Int = omega arith
type_weight-le-height types.String = omega arith
type_weight-le-height types.Text = omega arith
type_weight-le-height types.Image = omega arith
type_weight-le-height (types.Option s) = omega arith
type_weight-le-height (types.List s) = omega arith
type_weight-le-height (types.Map k s) = omega arith
type_weight-le-height (types.Named n) = omega arith
