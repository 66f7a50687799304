-- Which entries of a file count where a manifest is asked for by a channel.
use Rattle.std.specs.Prelude.{ℕ, Bool, true, List as Seq, [], ◌∷◌, ◌++◌, Option, Some, None, bytes_eq, if◌then◌else◌}
use Rattle.std.specs.List.{list_any}
use Rattle.fml_types.specs.declared.manifest.DefaultEntry.{DefaultEntry}

abbrev pub is_among : Seq ℕ → Seq (Seq ℕ) → Bool
is_among name names = list_any (λ n. bytes_eq n name) names

-- whether an entry with these channels is for this one
abbrev pub is_for : Seq ℕ → Option (Seq (Seq ℕ)) → Bool
is_for channel None = true
is_for channel (Some channels) = is_among channel channels

-- the entries that are for this channel, each for every channel then
abbrev pub kept_entries : Seq ℕ → Seq DefaultEntry → Seq DefaultEntry
kept_entries channel [] = []
kept_entries channel (e ∷ es) = (if is_for channel e.channels then record e { channels = None } ∷ [] else []) ++ kept_entries channel es

-- the entries of a file of one channel, where the manifest is asked for by another: those of a file of the asked channel stay as they are
abbrev pub entries_for : Seq ℕ → Seq ℕ → Seq DefaultEntry → Seq DefaultEntry
entries_for asked channel entries = if bytes_eq channel asked then entries else kept_entries channel entries
