-- The manifest of modules of which none imports another, for a channel, or its first fault.
use Rattle.std.specs.Prelude.{ℕ, List as Seq, [], ◌∷◌, Result, Ok}
use Rattle.fml_types.specs.Ground.{grounding}
use Rattle.fml_types.specs.declared.manifest.Manifest.{Manifest}
use Rattle.fml_reader.specs.declared.module.Module.{Module}
use Rattle.fml_imports.specs.Channels.{is_among}
use Rattle.fml_imports.specs.Joining.{unknown_of, all_known, all_grounded, channel_known}
use Rattle.fml_imports.specs.Outcome.{◌>>=◌}
use Rattle.fml_imports.specs.Tables.{Tables, tables_of}
use Rattle.fml_imports.specs.declared.fault.JoinRefusal.{JoinRefusal}

abbrev pub manifest_of : Tables → Seq ℕ → Manifest
manifest_of t channel = record { types = record { enums = t.enums; objects = t.objects }; features = t.features; channel = channel }

-- the channels of the root, which is the first of the modules
abbrev pub root_channels : Seq Module → Seq (Seq ℕ)
root_channels [] = []
root_channels (m ∷ ms) = m.channels

unfoldable pub joined_modules : Seq Module → Seq ℕ → Result Manifest JoinRefusal
joined_modules modules channel = do
  t ← tables_of modules
  k ← all_known (unknown_of (manifest_of t channel))
  g ← all_grounded (grounding (manifest_of t channel).types)
  c ← channel_known (is_among channel (root_channels modules))
  Ok (manifest_of t channel)
