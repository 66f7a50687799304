-- How high the types of a table and of members are, and how many levels a zero has: what bounds a walk over them.
use Rattle.std.specs.Prelude.{ℕ, List as Seq}
use Rattle.fml_types.specs.Ground.{greatest}
use Rattle.fml_types.specs.Shape.{height}
use Rattle.fml_types.specs.Shapes.{shape_of}
use Rattle.fml_types.specs.declared.manifest.Field.{Field}
use Rattle.fml_types.specs.declared.manifest.TypeTable.{TypeTable}
use Rattle.fml_merge.specs.declared.parts.Base.{Base}
use Rattle.fml_merge.specs.declared.parts.Base.TheVariants as base
use Rattle.fml_merge.specs.declared.parts.MemberTypes.{MemberTypes}
use Rattle.fml_merge.specs.declared.parts.MemberTypes.TheVariants as member

-- the greatest height of these fields' types
unfoldable pub highest_type : Seq (Seq ℕ × Field) → ℕ
highest_type fields = greatest (λ f. height (shape_of f.1.field_type)) fields

-- the greatest height of the types of all objects' fields
unfoldable pub highest : TypeTable → ℕ
highest types = greatest (λ o. highest_type o.1.fields) types.objects

abbrev pub member_height : MemberTypes → ℕ
member_height member.Nothing = 0
member_height (member.Entries key of) = height (shape_of of.now)
member_height (member.Fields fields) = highest_type fields.now

-- the levels of a zero that isn't made
abbrev pub zero_levels : Base → ℕ
zero_levels (base.Made v) = 0
zero_levels (base.Zero levels) = levels
