-- Features and the entries of their defaults.
use Rattle.std.specs.Prelude.{ℕ, ◌==◌, Bool, false, List as Seq, [], ◌∷◌, ◌++◌, Option, Some, None, option_map, Result, Ok, codes}
use Rattle.std.specs.List.{slice_split}
use Rattle.std.specs.BTreeSet.{insert_key}
use Rattle.std.specs.Cmp.Lexicographic.{slice_cmp}
use Rattle.std.specs.Ordering.{nat_cmp}
use Rattle.json_tree.specs.Json.{Json, get}
use Rattle.plain_text.specs.Names.{is_name}
use Rattle.fml_types.specs.TypeTexts.{without_front, without_end}
use Rattle.fml_types.specs.declared.manifest.DefaultEntry.{DefaultEntry}
use Rattle.fml_types.specs.declared.manifest.FeatureDefinition.{FeatureDefinition}
use Rattle.fml_reader.specs.Outcome.{◌>>=◌}
use Rattle.fml_reader.specs.Values.{object_in, text_in, truth_in, value_in}
use Rattle.fml_reader.specs.Fields.{fields_of}
use Rattle.fml_reader.specs.Walks.{items_in, members_in, there, required, optional}
use Rattle.fml_reader.specs.declared.fault.ModuleRefusal.{ModuleRefusal}

abbrev pub texts_of : Json → Result (Seq (Seq ℕ)) ModuleRefusal
texts_of = items_in text_in

-- a comma
abbrev pub is_comma : ℕ → Bool
is_comma x = x == 44

-- a name, unless nothing is left of it without the spaces around it
abbrev pub kept_name : Seq ℕ → Seq (Seq ℕ)
kept_name [] = []
kept_name (x ∷ s) = (x ∷ s) ∷ []

abbrev pub kept_names : Seq (Seq ℕ) → Seq (Seq ℕ)
kept_names [] = []
kept_names (piece ∷ pieces) = kept_name (without_front (without_end piece)) ++ kept_names pieces

-- the names that commas divide
abbrev pub names_in : Seq ℕ → Seq (Seq ℕ)
names_in s = kept_names (slice_split is_comma s)

-- the names that are held in order, and these at their places, each once
abbrev pub in_order : Seq (Seq ℕ) → Seq (Seq ℕ) → Seq (Seq ℕ)
in_order held [] = held
in_order held (name ∷ names) = in_order (insert_key (slice_cmp nat_cmp) held name) names

-- the names of both keys; where neither is there the entry is for every channel
abbrev pub both : Option (Seq (Seq ℕ)) → Option (Seq (Seq ℕ)) → Option (Seq (Seq ℕ))
both None listed = listed
both (Some names) None = Some names
both (Some names) (Some listed) = Some (names ++ listed)

unfoldable pub entry_of : Json → Result DefaultEntry ModuleRefusal
entry_of x = do
  o ← object_in x
  divided ← optional (codes "channel") (there text_in) None (get (codes "channel") x)
  listed ← optional (codes "channels") (there texts_of) None (get (codes "channels") x)
  value ← required (codes "value") value_in (get (codes "value") x)
  Ok (record { channels = option_map (in_order []) (both (option_map names_in divided) listed); value = value })

abbrev pub entries_of : Json → Result (Seq DefaultEntry) ModuleRefusal
entries_of = items_in entry_of

unfoldable pub feature_of : Json → Result FeatureDefinition ModuleRefusal
feature_of x = do
  o ← object_in x
  variables ← optional (codes "variables") fields_of [] (get (codes "variables") x)
  defaults ← optional (codes "defaults") entries_of [] (get (codes "defaults") x)
  allows ← optional (codes "allow-coenrollment") truth_in false (get (codes "allow-coenrollment") x)
  Ok (record { variables = variables; defaults = defaults; allows_coenrollment = allows })

abbrev pub features_of : Json → Result (Seq (Seq ℕ × FeatureDefinition)) ModuleRefusal
features_of = members_in is_name feature_of
