-- Laws of the definitions alone.
use Rattle.std.specs.Prelude.{◌≡◌, true, All}
use Rattle.fml_types.specs.Named.{AreRising}
use Rattle.fml_types.specs.Shape.{Shape}
use Rattle.fml_types.specs.Sound.{IsSoundTable, IsSoundType}
use Rattle.fml_types.specs.declared.manifest.TypeTable.{TypeTable}
use Rattle.fml_value.specs.Fits.{fits}
use Rattle.fml_value.specs.HasType.{HasType}
use Rattle.fml_value.specs.Takes.{takes}
use Rattle.fml_value.specs.Trees.{tree_of}
use Rattle.fml_value.specs.Typed.{TypedValue}

-- values of a sound type that have one tree are one value
abbrev pub OneValue : Type 0
OneValue = (types : TypeTable) (t : Shape) (v w : TypedValue) → IsSoundTable types → IsSoundType types t → HasType types t v → HasType types t w → tree_of v ≡ tree_of w → v ≡ w

-- a type takes the tree of each of its values
abbrev pub IsTaken : Type 0
IsTaken = (types : TypeTable) (t : Shape) (v : TypedValue) → HasType types t v → takes types t (tree_of v) ≡ true

-- the tree of each value fits its type, where the fields of each object rise by their names
abbrev pub IsFit : Type 0
IsFit = (types : TypeTable) (t : Shape) (v : TypedValue) → All (λ o. AreRising o.1.fields) types.objects → HasType types t v → fits types t (tree_of v) ≡ true
