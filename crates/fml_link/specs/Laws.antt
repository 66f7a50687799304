-- Laws of the list of files.
use Rattle.std.specs.Prelude.{◌≡◌, ◌≤◌, ◌&&◌, ℕ, List as Seq, [], ◌∷◌, length, Option, Some, Ok, Bool, true, not, slice_get, All}
use Rattle.json_tree.specs.Json.{IsSound}
use Rattle.json_tree.specs.Bytes.{text_of}
use Rattle.fml_types.specs.Named.{found, has_name}
use Rattle.fml_types.specs.declared.manifest.Manifest.{Manifest}
use Rattle.fml_reader.specs.declared.module.Module.{Module}
use Rattle.fml_imports.specs.Single.{single}
use Rattle.fml_imports.specs.WellFormed.{IsWellFormed}
use Rattle.fml_link.specs.Files.{file_module, max_bytes, named_by, list_of}
use Rattle.fml_link.specs.Included.{names_after, included}
use Rattle.fml_link.specs.Linking.{linked}

-- no name stands twice
abbrev pub are_distinct : Seq (Seq ℕ × Seq ℕ) → Bool
are_distinct [] = true
are_distinct (f ∷ fs) = not (has_name f.0 fs) && are_distinct fs

-- the root is the first of its files, and is read for the asked channel
abbrev pub StartWithRoot : Type 0
StartWithRoot = (file : Seq ℕ → Option (Seq ℕ)) (root channel : Seq ℕ) (list : Seq (Seq ℕ × Seq ℕ)) → list_of file root channel ≡ Ok list → slice_get list 0 ≡ Some (root, channel)

-- no file stands twice
abbrev pub AreDistinct : Type 0
AreDistinct = (file : Seq ℕ → Option (Seq ℕ)) (root channel : Seq ℕ) (list : Seq (Seq ℕ × Seq ℕ)) → list_of file root channel ≡ Ok list → are_distinct list ≡ true

-- each file that one of the files includes or imports is one of them, and is read for that channel
abbrev pub AreClosed : Type 0
AreClosed = (file : Seq ℕ → Option (Seq ℕ)) (root channel : Seq ℕ) (list : Seq (Seq ℕ × Seq ℕ)) → list_of file root channel ≡ Ok list
    → (name own : Seq ℕ) (m : Module) → found name list ≡ Some own → file_module name (file name) ≡ Ok m → All (λ (f : Seq ℕ × Seq ℕ). found f.0 list ≡ Some f.1) (named_by own m)

-- of the root and the files that are included from it, in the order in which they are read, none imports another
abbrev pub ImportNothing : (Seq ℕ → Option (Seq ℕ)) → Seq ℕ → Type 0
ImportNothing file root = (place : ℕ) (names : Seq (Seq ℕ)) (name : Seq ℕ) (m : Module) → names_after file root place ≡ Ok names → slice_get names place ≡ Some name → file_module name (file name) ≡ Ok m → m.imports ≡ []

-- where none of these imports another, the manifest is that of the included files, whose channels count for nothing
abbrev pub LinkAsIncluded : Type 0
LinkAsIncluded = (file : Seq ℕ → Option (Seq ℕ)) (root : Seq ℕ) → ImportNothing file root → (channel : Seq ℕ) → linked file root channel ≡ included file root channel

-- where the file of a name is the single file of a well formed manifest, and has at most 4,194,304 bytes, linking it for the manifest's channel gives the manifest
abbrev pub SingleLinksBack : Type 0
SingleLinksBack = (file : Seq ℕ → Option (Seq ℕ)) (root : Seq ℕ) (m : Manifest) → IsWellFormed m → IsSound (single m) → file root ≡ Some (text_of (single m)) → length (text_of (single m)) ≤ max_bytes → linked file root m.channel ≡ Ok m

-- each shelf on which the file of a name is the text of the manifest's single file, of at most 4,194,304 bytes, links that name to an equal manifest, for the manifest's channel
abbrev pub LinksBack : Manifest → Type 0
LinksBack m = (file : Seq ℕ → Option (Seq ℕ)) (root : Seq ℕ) → file root ≡ Some (text_of (single m)) → length (text_of (single m)) ≤ max_bytes → linked file root m.channel ≡ Ok m

-- each manifest that files link to is linked back
abbrev pub LinkedLinksBack : Type 0
LinkedLinksBack = (file : Seq ℕ → Option (Seq ℕ)) (root channel : Seq ℕ) (m : Manifest) → linked file root channel ≡ Ok m → LinksBack m
