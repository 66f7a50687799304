-- The files of a manifest, each with the channel that it is read for: the list that starts with the root and the asked channel, and to which each file in turn adds those that it names and that aren't in it yet.
use Rattle.std.specs.Prelude.{ℕ, zero, suc, nat_lt, nat_le, List as Seq, [], ◌∷◌, ◌++◌, length, map, slice_get, Option, None, Some, Result, Ok, Err, bytes_eq, if◌then◌else◌}
use Rattle.json_tree.specs.Json.{Json, depth}
use Rattle.json_tree.specs.Bytes.{tree_of, max_depth}
use Rattle.fml_types.specs.Named.{found, has_name}
use Rattle.fml_types.specs.Sound.{where_unknown}
use Rattle.fml_reader.specs.Modules.{module_of}
use Rattle.fml_reader.specs.declared.fault.ModuleRefusal.{ModuleRefusal}
use Rattle.fml_reader.specs.declared.fault.ModuleRefusal.TheVariants as read
use Rattle.fml_reader.specs.declared.imports.Import.{Import}
use Rattle.fml_reader.specs.declared.module.Module.{Module}
use Rattle.fml_imports.specs.Imports.{first_found}
use Rattle.fml_imports.specs.declared.joining.Linked.{Linked}
use Rattle.fml_link.specs.Outcome.{◌>>=◌, each}
use Rattle.fml_link.specs.declared.fault.LinkRefusal.{LinkRefusal}
use Rattle.fml_link.specs.declared.fault.LinkRefusal.TheVariants as refusals

-- the most bytes of a file
abbrev pub max_bytes : ℕ
max_bytes = 4194304

-- the most files of a manifest
abbrev pub max_files : ℕ
max_files = 64

-- a value that nests at most 64 deep
abbrev pub shallow_tree : Seq ℕ → Option Json → Result Json LinkRefusal
shallow_tree name None = Err (refusals.NotJson name)
shallow_tree name (Some x) = if nat_le (depth x) max_depth then Ok x else Err (refusals.NotJson name)

-- the value of the file of this name
unfoldable pub file_tree : Seq ℕ → Option (Seq ℕ) → Result Json LinkRefusal
file_tree name None = Err (refusals.AbsentFile name)
file_tree name (Some bytes) = if nat_lt max_bytes (length bytes) then Err (refusals.FileTooLarge name (length bytes)) else shallow_tree name (tree_of bytes)

-- what is read of the file of this name
abbrev pub in_file : {A : Type 0} → Seq ℕ → Result A ModuleRefusal → Result A LinkRefusal
in_file name (Ok x) = Ok x
in_file name (Err (read.BadShape path)) = Err (refusals.BadShape name path)

-- what the file of this name says
unfoldable pub file_module : Seq ℕ → Option (Seq ℕ) → Result Module LinkRefusal
file_module name file = do
  x ← file_tree name file
  in_file name (module_of x)

-- the files that a file of this channel includes: they are read for its own
abbrev pub included_by : Seq ℕ → Seq (Seq ℕ) → Seq (Seq ℕ × Seq ℕ)
included_by channel includes = map (λ (name : Seq ℕ). (name, channel)) includes

-- the files that are imported, each for the import's channel
abbrev pub imported_by : Seq Import → Seq (Seq ℕ × Seq ℕ)
imported_by imports = map (λ (i : Import). (i.path, i.channel)) imports

-- the files that a file of this channel names
abbrev pub named_by : Seq ℕ → Module → Seq (Seq ℕ × Seq ℕ)
named_by channel m = included_by channel m.includes ++ imported_by m.imports

-- a file is added, unless its name is in the list already
abbrev pub with_file : Seq (Seq ℕ × Seq ℕ) → Seq ℕ × Seq ℕ → Result (Seq (Seq ℕ × Seq ℕ)) LinkRefusal
with_file list f = if has_name f.0 list then Ok list else if nat_lt (length list) max_files then Ok (list ++ f ∷ []) else Err refusals.TooManyFiles

abbrev pub with_files : Seq (Seq ℕ × Seq ℕ) → Seq (Seq ℕ × Seq ℕ) → Result (Seq (Seq ℕ × Seq ℕ)) LinkRefusal
with_files list files = each with_file list files

-- a name, where it is listed for another channel than this
abbrev pub where_other : Seq ℕ → Seq ℕ → Option (Seq ℕ) → Option (Seq ℕ)
where_other name channel None = None
where_other name channel (Some listed) = where_unknown name (bytes_eq listed channel)

-- the first of these files that is listed for another channel
abbrev pub first_clash : Seq (Seq ℕ × Seq ℕ) → Seq (Seq ℕ × Seq ℕ) → Option (Seq ℕ)
first_clash list files = first_found (λ (f : Seq ℕ × Seq ℕ). where_other f.0 f.1 (found f.0 list)) files

abbrev pub without_clash : Seq (Seq ℕ × Seq ℕ) → Option (Seq ℕ) → Result (Seq (Seq ℕ × Seq ℕ)) LinkRefusal
without_clash list None = Ok list
without_clash list (Some name) = Err (refusals.ImportClash name)

-- files are added, where none of them is listed for another channel then
unfoldable pub with_named : Seq (Seq ℕ × Seq ℕ) → Seq (Seq ℕ × Seq ℕ) → Result (Seq (Seq ℕ × Seq ℕ)) LinkRefusal
with_named list files = do
  longer ← with_files list files
  without_clash longer (first_clash longer files)

-- a listed file, where there is one, adds those that it names
abbrev pub after_file : (Seq ℕ → Option (Seq ℕ)) → Seq (Seq ℕ × Seq ℕ) → Option (Seq ℕ × Seq ℕ) → Result (Seq (Seq ℕ × Seq ℕ)) LinkRefusal
after_file file list None = Ok list
after_file file list (Some f) = do
  m ← file_module f.0 (file f.0)
  with_named list (named_by f.1 m)

-- the list after so many of its files have added those that they name
unfoldable pub list_after : (Seq ℕ → Option (Seq ℕ)) → Seq ℕ → Seq ℕ → ℕ → Result (Seq (Seq ℕ × Seq ℕ)) LinkRefusal
list_after file root channel zero = Ok ((root, channel) ∷ [])
list_after file root channel (suc n) = do
  list ← list_after file root channel n
  after_file file list (slice_get list n)

-- the whole list: it has at most 64 files, so each of them is among the first 64
abbrev pub list_of : (Seq ℕ → Option (Seq ℕ)) → Seq ℕ → Seq ℕ → Result (Seq (Seq ℕ × Seq ℕ)) LinkRefusal
list_of file root channel = list_after file root channel max_files

-- what each of these files says
abbrev pub read_each : (Seq ℕ → Option (Seq ℕ)) → Seq (Seq ℕ × Seq ℕ) → Result (Seq Linked) LinkRefusal
read_each file [] = Ok []
read_each file (f ∷ fs) = do
  m ← file_module f.0 (file f.0)
  others ← read_each file fs
  Ok (record { name = f.0; channel = f.1; «module» = m } ∷ others)

-- what the files of a root say where it is asked for by a channel, in order
abbrev pub files_of : (Seq ℕ → Option (Seq ℕ)) → Seq ℕ → Seq ℕ → Result (Seq Linked) LinkRefusal
files_of file root channel = do
  list ← list_of file root channel
  read_each file list
