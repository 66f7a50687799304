-- The manifest of a root for a channel, or its first fault.
use Rattle.std.specs.Prelude.{ℕ, List as Seq, Option, Result, Ok, Err}
use Rattle.fml_types.specs.declared.manifest.Manifest.{Manifest}
use Rattle.fml_imports.specs.Joining.{joined}
use Rattle.fml_imports.specs.declared.fault.JoinRefusal.{JoinRefusal}
use Rattle.fml_link.specs.Files.{files_of}
use Rattle.fml_link.specs.Outcome.{◌>>=◌}
use Rattle.fml_link.specs.declared.fault.LinkRefusal.{LinkRefusal}
use Rattle.fml_link.specs.declared.fault.LinkRefusal.TheVariants as refusals

-- what joining the files gives
abbrev pub of_files : Result Manifest JoinRefusal → Result Manifest LinkRefusal
of_files (Ok m) = Ok m
of_files (Err refusal) = Err (refusals.NotJoined refusal)

-- the manifest of the files, which have names
unfoldable pub linked : (Seq ℕ → Option (Seq ℕ)) → Seq ℕ → Seq ℕ → Result Manifest LinkRefusal
linked file root channel = do
  files ← files_of file root channel
  of_files (joined files channel)
