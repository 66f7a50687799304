-- Which imports name a channel of the file that they import.
use Rattle.std.specs.Prelude.{ℕ, List as Seq, [], ◌∷◌, Option, None, bytes_eq, if◌then◌else◌}
use Rattle.std.specs.Option.{option_or}
use Rattle.fml_types.specs.Sound.{where_unknown}
use Rattle.fml_reader.specs.declared.imports.Import.{Import}
use Rattle.fml_imports.specs.Channels.{is_among}
use Rattle.fml_imports.specs.declared.joining.Linked.{Linked}

-- the first that is found of an item
abbrev pub first_found : {A : Type 0} → (A → Option (Seq ℕ)) → Seq A → Option (Seq ℕ)
first_found find [] = None
first_found find (x ∷ xs) = option_or (find x) (first_found find xs)

-- the channels of the file of this name
abbrev pub channels_of : Seq ℕ → Seq Linked → Seq (Seq ℕ)
channels_of name [] = []
channels_of name (f ∷ fs) = if bytes_eq f.name name then f.module.channels else channels_of name fs

-- the path of an import whose channel the imported file doesn't have
abbrev pub unknown_import : Seq Linked → Import → Option (Seq ℕ)
unknown_import files i = where_unknown i.path (is_among i.channel (channels_of i.path files))

-- the first of all these
abbrev pub first_unknown_import : Seq Linked → Option (Seq ℕ)
first_unknown_import files = first_found (λ (f : Linked). first_found (unknown_import files) f.module.imports) files
