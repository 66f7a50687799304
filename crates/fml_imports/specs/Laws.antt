-- Laws of the single file of a manifest.
use Rattle.std.specs.Prelude.{◌≡◌, ◌≤◌, ℕ, List as Seq, [], ◌∷◌, Ok, Some}
use Rattle.json_tree.specs.Bytes.{max_depth, tree_of}
use Rattle.json_tree.specs.Json.{Json, depth}
use Rattle.fml_types.specs.Shape.{Shape}
use Rattle.fml_types.specs.TypeTexts.{spelled}
use Rattle.fml_types.specs.declared.manifest.Manifest.{Manifest}
use Rattle.fml_reader.specs.Modules.{module_of}
use Rattle.fml_reader.specs.declared.module.Module.{Module}
use Rattle.fml_imports.specs.Joining.{joined}
use Rattle.fml_imports.specs.Single.{single, type_text}
use Rattle.fml_imports.specs.WellFormed.{IsSpelledType, IsWellFormed}

-- the value reads as a module, and the one file of this name that says it gives the manifest, for the manifest's channel
abbrev pub IsFileOf : Seq ℕ → Json → Manifest → Type 0
IsFileOf name x m = (read : Module) × (module_of x ≡ Ok read) × (joined (record { name = name; channel = m.channel; «module» = read } ∷ []) m.channel ≡ Ok m)

-- the bytes are a value that nests at most 64 deep, and the one file of this name that says it gives the manifest
abbrev pub IsTextOf : Seq ℕ → Seq ℕ → Manifest → Type 0
IsTextOf name bytes m = (x : Json) × (tree_of bytes ≡ Some x) × (depth x ≤ max_depth) × IsFileOf name x m

-- the single file of a well formed manifest gives the manifest
abbrev pub SingleReadsBack : Type 0
SingleReadsBack = (m : Manifest) → IsWellFormed m → (name : Seq ℕ) → IsFileOf name (single m) m

-- the text of a type spells the type
abbrev pub TypesReadBack : Type 0
TypesReadBack = (s : Shape) → IsSpelledType s → spelled (type_text s) ≡ Some s
