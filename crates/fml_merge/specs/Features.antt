-- The default of a feature, and trees laid over values of it.
use Rattle.std.specs.Prelude.{ℕ, Bool, true, List as Seq, [], ◌∷◌, fold, Option as Maybe, Some, None, ⊤, bytes_eq, if◌then◌else◌}
use Rattle.std.specs.List.{list_any}
use Rattle.json_tree.specs.Json as json
use Rattle.json_tree.specs.Json.{Json, IsSound}
use Rattle.json_tree.specs.Tree.{json_of}
use Rattle.fml_types.specs.declared.manifest.DefaultEntry.{DefaultEntry}
use Rattle.fml_types.specs.declared.manifest.FeatureDefinition.{FeatureDefinition}
use Rattle.fml_types.specs.declared.manifest.Manifest.{Manifest}
use Rattle.fml_value.specs.Fits.{type_of_field}
use Rattle.fml_value.specs.HasType.{AreFields}
use Rattle.fml_value.specs.Typed.{TypedValue, object, entries_of}
use Rattle.fml_merge.specs.Overlay.{pairs_in, members_laid}
use Rattle.fml_merge.specs.Zero.{zero_of, initial}

-- a tree laid over the variables of a feature, which are as the fields of an object: only an object is laid
abbrev pub overlay_feature : Manifest → FeatureDefinition → TypedValue → Json → TypedValue
overlay_feature m f base (json.object ms) = object (entries_of (members_laid (zero_of m.types) m.types (type_of_field f.variables) (pairs_in base) ms))
overlay_feature m f base x = base

-- trees laid over the variables of a feature, one after the other
abbrev pub overlay_each : Manifest → FeatureDefinition → TypedValue → Seq Json → TypedValue
overlay_each m f v xs = fold (overlay_feature m f) v xs

-- the members of those trees that are objects
abbrev pub objects_among : Seq Json → Seq json.Members
objects_among [] = []
objects_among (json.object ms ∷ xs) = ms ∷ objects_among xs
objects_among (x ∷ xs) = objects_among xs

abbrev pub AreSound : Seq Json → Type 0
AreSound [] = ⊤
AreSound (x ∷ xs) = IsSound x × AreSound xs

-- the entry names the channel, or no channel at all
abbrev pub is_for : Seq ℕ → Maybe (Seq (Seq ℕ)) → Bool
is_for channel None = true
is_for channel (Some channels) = list_any (bytes_eq channel) channels

-- what the entries lay that are for the channel
abbrev pub patches_for : Seq ℕ → Seq DefaultEntry → Seq Json
patches_for channel [] = []
patches_for channel (e ∷ es) = if is_for channel e.channels then json_of e.value ∷ patches_for channel es else patches_for channel es

-- the entries for the manifest's channel, laid one after the other
abbrev pub entries_laid : Manifest → FeatureDefinition → TypedValue → Seq DefaultEntry → TypedValue
entries_laid m f v [] = v
entries_laid m f v (e ∷ es) = entries_laid m f (if is_for m.channel e.channels then overlay_feature m f v (json_of e.value) else v) es

-- the variables with their own defaults, over which the feature's defaults are laid
abbrev pub default_of : Manifest → FeatureDefinition → TypedValue
default_of m f = entries_laid m f (object (entries_of (initial (zero_of m.types) m.types f.variables))) f.defaults

-- the value is an object of exactly the feature's variables, each with a value of its type
abbrev pub IsOfFeature : Manifest → FeatureDefinition → TypedValue → Type 0
IsOfFeature m f (object es) = AreFields m.types f.variables es
IsOfFeature m f v = ⊥
