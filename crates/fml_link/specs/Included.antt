-- The manifest of a root and of the files that it includes, for a channel, or its first fault.
use Rattle.std.specs.Prelude.{ℕ, zero, suc, nat_lt, List as Seq, [], ◌∷◌, ◌++◌, length, slice_get, Option, None, Some, Result, Ok, Err, if◌then◌else◌}
use Rattle.fml_types.specs.declared.manifest.Manifest.{Manifest}
use Rattle.fml_reader.specs.declared.module.Module.{Module}
use Rattle.fml_imports.specs.Channels.{is_among}
use Rattle.fml_link.specs.Files.{file_module, max_files}
use Rattle.fml_link.specs.IncludedTables.{joined_modules}
use Rattle.fml_link.specs.Linking.{of_files}
use Rattle.fml_link.specs.Outcome.{◌>>=◌, each}
use Rattle.fml_link.specs.declared.fault.LinkRefusal.{LinkRefusal}
use Rattle.fml_link.specs.declared.fault.LinkRefusal.TheVariants as refusals

-- an include is added, unless it is in the list already
abbrev pub with_include : Seq (Seq ℕ) → Seq ℕ → Result (Seq (Seq ℕ)) LinkRefusal
with_include names include = if is_among include names then Ok names else if nat_lt (length names) max_files then Ok (names ++ include ∷ []) else Err refusals.TooManyFiles

abbrev pub with_includes : Seq (Seq ℕ) → Seq (Seq ℕ) → Result (Seq (Seq ℕ)) LinkRefusal
with_includes names includes = each with_include names includes

-- a file, where there is one, adds its includes
abbrev pub after_include : (Seq ℕ → Option (Seq ℕ)) → Seq (Seq ℕ) → Option (Seq ℕ) → Result (Seq (Seq ℕ)) LinkRefusal
after_include file names None = Ok names
after_include file names (Some name) = do
  m ← file_module name (file name)
  with_includes names m.includes

-- the list that starts with the root, after so many of its files have added their includes
unfoldable pub names_after : (Seq ℕ → Option (Seq ℕ)) → Seq ℕ → ℕ → Result (Seq (Seq ℕ)) LinkRefusal
names_after file root zero = Ok (root ∷ [])
names_after file root (suc n) = do
  names ← names_after file root n
  after_include file names (slice_get names n)

-- what each of these files says
abbrev pub modules_in : (Seq ℕ → Option (Seq ℕ)) → Seq (Seq ℕ) → Result (Seq Module) LinkRefusal
modules_in file [] = Ok []
modules_in file (name ∷ names) = do
  m ← file_module name (file name)
  ms ← modules_in file names
  Ok (m ∷ ms)

unfoldable pub included : (Seq ℕ → Option (Seq ℕ)) → Seq ℕ → Seq ℕ → Result Manifest LinkRefusal
included file root channel = do
  names ← names_after file root max_files
  modules ← modules_in file names
  of_files (joined_modules modules channel)
