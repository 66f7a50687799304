-- Where no file imports another, linking is joining the included files.
use Rattle.std.proofs.Common.{◌≡◌, ℕ, zero, suc, Bool, true, false, List, [], ◌∷◌, ◌++◌, map, length, Option, Some, None, Result, Ok, Err, refl, sym, ap, ◌∙◌}
use Rattle.std.specs.Prelude.{◌||◌, All, nat_lt, bytes_eq, slice_get, option_map, if◌then◌else◌}
use Rattle.std.specs.List.{flat_map}
use Rattle.std.specs.Option.{option_or}
use Rattle.std.proofs.lemmas.List.{append-nil}
use Rattle.sequences.proofs.Texts.{bytes_same}
use Rattle.fml_types.specs.Named.{found, has_name}
use Rattle.fml_types.specs.declared.manifest.DefaultEntry.{DefaultEntry}
use Rattle.fml_types.specs.declared.manifest.FeatureDefinition.{FeatureDefinition}
use Rattle.fml_types.specs.declared.manifest.Manifest.{Manifest}
use Rattle.fml_reader.specs.declared.imports.Import.{Import}
use Rattle.fml_reader.specs.declared.module.Module.{Module}
use Rattle.fml_imports.specs.Channels.{is_among, kept_entries, entries_for}
use Rattle.fml_imports.specs.Imports.{first_found, unknown_import, first_unknown_import}
use Rattle.fml_imports.specs.Joining.{root_channels, checked, made_of, joined}
use Rattle.fml_imports.specs.Outcome as join
use Rattle.fml_imports.specs.Overrides.{import_overrides, overrides_of}
use Rattle.fml_imports.specs.Tables.{Tables, tables_of, feature_for, module_for}
use Rattle.fml_imports.specs.declared.fault.JoinRefusal.{JoinRefusal}
use Rattle.fml_imports.specs.declared.joining.Linked.{Linked}
use Rattle.fml_imports.proofs.Alls.{all_nil, all_cons, all_head, all_tail}
use Rattle.fml_imports.proofs.Overriding.{over_nothing}
use Rattle.fml_link.specs.declared.fault.LinkRefusal.{LinkRefusal}
use Rattle.fml_link.specs.declared.fault.LinkRefusal.TheVariants as refusals
use Rattle.fml_link.specs.Files.{file_module, included_by, imported_by, named_by, with_file, with_files, where_other, first_clash, without_clash, with_named, after_file, list_after, read_each}
use Rattle.fml_link.specs.Included.{with_include, with_includes, after_include, names_after, modules_in, included}
use Rattle.fml_link.specs.IncludedTables.{manifest_of, joined_modules}
use Rattle.fml_link.specs.IncludedTables as plain
use Rattle.fml_link.specs.Laws.{ImportNothing, LinkAsIncluded}
use Rattle.fml_link.specs.Linking.{of_files, linked}
use Rattle.fml_link.specs.Outcome.{◌>>=◌, each}
use Rattle.fml_link.proofs.Closed.{there_at_turn}
use Rattle.fml_link.proofs.Listing.{Listed}

-- ---- the list

module _ (channel : List ℕ) where
  -- the list of the names, each with the channel
  abbrev listed : Result (List (List ℕ)) LinkRefusal → Result Listed LinkRefusal
  listed r = r >>= λ names. Ok (included_by channel names)

  same_names : (name : List ℕ) (names : List (List ℕ)) → has_name name (included_by channel names) ≡ is_among name names
  same_names name [] = refl
  same_names name (n ∷ ns) = ap (λ b. bytes_eq n name || b) (same_names name ns)

  same_length : (names : List (List ℕ)) → length (included_by channel names) ≡ length names
  same_length [] = refl
  same_length (n ∷ ns) = ap suc (same_length ns)

  put_last : (names : List (List ℕ)) (name : List ℕ) → included_by channel names ++ (name, channel) ∷ [] ≡ included_by channel (names ++ name ∷ [])
  put_last [] name = refl
  put_last (n ∷ ns) name = ap (λ l. (n, channel) ∷ l) (put_last ns name)

  one-added : (there room : Bool) (names : List (List ℕ)) (name : List ℕ) → (if there then Ok (included_by channel names) else if room then Ok (included_by channel names ++ (name, channel) ∷ []) else Err refusals.TooManyFiles)
      ≡ listed (if there then Ok names else if room then Ok (names ++ name ∷ []) else Err refusals.TooManyFiles)
  one-added true room names name = refl
  one-added false true names name = ap (λ l. Ok l) (put_last names name)
  one-added false false names name = refl

  one_added : (names : List (List ℕ)) (name : List ℕ) → with_file (included_by channel names) (name, channel) ≡ listed (with_include names name)
  one_added names name =
      ap (λ b. if b then Ok (included_by channel names) else if nat_lt (length (included_by channel names)) 64 then Ok (included_by channel names ++ (name, channel) ∷ []) else Err refusals.TooManyFiles) (same_names name names)
      ∙ ap (λ n. if is_among name names then Ok (included_by channel names) else if nat_lt n 64 then Ok (included_by channel names ++ (name, channel) ∷ []) else Err refusals.TooManyFiles) (same_length names)
      ∙ one-added (is_among name names) (nat_lt (length names) 64) names name

  all_added : (includes names : List (List ℕ)) → with_files (included_by channel names) (included_by channel includes) ≡ listed (with_includes names includes)
  all_added [] names = refl
  all_added (i ∷ is) names =
      ap (λ r. r >>= λ l. each with_file l (included_by channel is)) (one_added names i)
      ∙ elim (with_include names i) as (λ (r : Result (List (List ℕ)) LinkRefusal). (listed r >>= λ l. each with_file l (included_by channel is)) ≡ listed (r >>= λ ns. each with_include ns is)) [
        | Ok ns ↦ all_added is ns
        | Err e ↦ refl
      ]

  no-other : (name n : List ℕ) (b : Bool) (o : Option (List ℕ)) → where_other name channel o ≡ None → where_other name channel (if b then Some channel else o) ≡ None
  no-other name n true o h = ap (λ b. if b then None else Some name) (bytes_same channel)
  no-other name n false o h = h

  no_other : (name : List ℕ) (names : List (List ℕ)) → where_other name channel (found name (included_by channel names)) ≡ None
  no_other name [] = refl
  no_other name (n ∷ ns) = no-other name n (bytes_eq n name) (found name (included_by channel ns)) (no_other name ns)

  no_clash : (names includes : List (List ℕ)) → first_clash (included_by channel names) (included_by channel includes) ≡ None
  no_clash names [] = refl
  no_clash names (i ∷ is) = ap (λ o. option_or o (first_clash (included_by channel names) (included_by channel is))) (no_other i names) ∙ no_clash names is

  names_added : (names includes : List (List ℕ)) → with_named (included_by channel names) (included_by channel includes) ≡ listed (with_includes names includes)
  unfolding with_named
  names_added names includes =
      ap (λ r. r >>= λ l. without_clash l (first_clash l (included_by channel includes))) (all_added includes names)
      ∙ elim (with_includes names includes) as (λ (r : Result (List (List ℕ)) LinkRefusal). (listed r >>= λ l. without_clash l (first_clash l (included_by channel includes))) ≡ listed r) [
        | Ok ns ↦ ap (without_clash (included_by channel ns)) (no_clash ns includes)
        | Err e ↦ refl
      ]

  module_added : (names : List (List ℕ)) (m : Module) → m.imports ≡ [] → with_named (included_by channel names) (named_by channel m) ≡ listed (with_includes names m.includes)
  module_added names m nothing =
      ap (λ (is : List Import). with_named (included_by channel names) (included_by channel m.includes ++ imported_by is)) nothing
      ∙ ap (with_named (included_by channel names)) (append-nil (included_by channel m.includes)) ∙ names_added names m.includes

  same_place : (names : List (List ℕ)) (i : ℕ) → slice_get (included_by channel names) i ≡ option_map (λ (n : List ℕ). (n, channel)) (slice_get names i)
  same_place [] i = refl
  same_place (n ∷ ns) zero = refl
  same_place (n ∷ ns) (suc i) = same_place ns i

-- the file of a name imports nothing, where it is read
abbrev ImportsNothing : (List ℕ → Option (List ℕ)) → List ℕ → Type 0
ImportsNothing file name = (m : Module) → file_module name (file name) ≡ Ok m → m.imports ≡ []

module _ (file : List ℕ → Option (List ℕ)) (channel : List ℕ) where
  file-added : (names : List (List ℕ)) (name : List ℕ) (r : Result Module LinkRefusal) → ImportsNothing file name → file_module name (file name) ≡ r
      → (r >>= λ m. with_named (included_by channel names) (named_by channel m)) ≡ listed channel (r >>= λ m. with_includes names m.includes)
  file-added names name (Ok m) nothing is = module_added channel names m (nothing m is)
  file-added names name (Err e) nothing is = refl

  file_added : (names : List (List ℕ)) (name : Option (List ℕ)) → ((n : List ℕ) → name ≡ Some n → ImportsNothing file n)
      → after_file file (included_by channel names) (option_map (λ (n : List ℕ). (n, channel)) name) ≡ listed channel (after_include file names name)
  file_added names None nothing = refl
  file_added names (Some name) nothing = file-added names name (file_module name (file name)) (nothing name refl) refl

module _ (file : List ℕ → Option (List ℕ)) (root : List ℕ) (nothing : ImportNothing file root) (channel : List ℕ) where
  next-list : (n : ℕ) (r : Result (List (List ℕ)) LinkRefusal) → names_after file root n ≡ r
      → (listed channel r >>= λ l. after_file file l (slice_get l n)) ≡ listed channel (r >>= λ names. after_include file names (slice_get names n))
  next-list n (Ok names) is =
      ap (after_file file (included_by channel names)) (same_place channel names n)
      ∙ file_added file channel names (slice_get names n) (λ (name : List ℕ) (at : slice_get names n ≡ Some name) (m : Module) (says : file_module name (file name) ≡ Ok m). nothing n names name m is at says)
  next-list n (Err e) is = refl

  same_list : (n : ℕ) → list_after file root channel n ≡ listed channel (names_after file root n)
  unfolding list_after names_after
  same_list zero = refl
  same_list (suc n) = ap (λ r. r >>= λ l. after_file file l (slice_get l n)) (same_list n) ∙ next-list n (names_after file root n) refl

  with_channel : Option (List ℕ) → Option (List ℕ × List ℕ)
  with_channel o = option_map (λ (n : List ℕ). (n, channel)) o

  name_of : (o : Option (List ℕ)) (name : List ℕ) → with_channel o ≡ Some (name, channel) → o ≡ Some name
  unfolding with_channel
  name_of None name h = absurd cc
  name_of (Some n) name h = ap (λ (o : Option (List ℕ × List ℕ)). option_map (λ (f : List ℕ × List ℕ). f.0) o) h

  named-at : (i : ℕ) (name : List ℕ) (at : Listed) (r : Result (List (List ℕ)) LinkRefusal) → listed channel r ≡ Ok at → slice_get at i ≡ Some (name, channel) → (names : List (List ℕ)) × (r ≡ Ok names) × (slice_get names i ≡ Some name)
  unfolding with_channel
  named-at i name at (Ok names) is here =
      let same : included_by channel names ≡ at = cc in
      (names, refl, name_of (slice_get names i) name (sym (same_place channel names i) ∙ ap (λ (l : Listed). slice_get l i) same ∙ here))
  named-at i name at (Err e) is here = absurd cc

  -- no file of the whole list imports another
  none_imports : (names : List (List ℕ)) → names_after file root 64 ≡ Ok names → (i : ℕ) (name : List ℕ) → slice_get names i ≡ Some name → ImportsNothing file name
  unfolding with_channel
  none_imports names all i name here m says =
      let at = there_at_turn file root channel i (name, channel) (included_by channel names) (same_list 64 ∙ ap (listed channel) all) (same_place channel names i ∙ ap with_channel here) in
      let named = named-at i name at.0 (names_after file root i) (sym (same_list i) ∙ at.1) at.2 in
      nothing i named.0 name m named.1 named.2 says

-- ---- what the files say

-- a file of the channel that imports nothing
record IsOwn (channel : List ℕ) (f : Linked) : Type 0 where
  pub same : f.channel ≡ channel
  pub nothing : f.module.imports ≡ []

abbrev AreOwn : List ℕ → List Linked → Type 0
AreOwn channel files = All (IsOwn channel) files

abbrev modules : List Linked → List Module
modules files = map (λ (f : Linked). f.module) files

-- files are read as their modules are
Reads : List ℕ → Result (List Linked) LinkRefusal → Result (List Module) LinkRefusal → Type 0
Reads channel (Ok files) read = (read ≡ Ok (modules files)) × AreOwn channel files
Reads channel (Err e) read = read ≡ Err e

module _ (file : List ℕ → Option (List ℕ)) (channel : List ℕ) where
  more-read : (name : List ℕ) (m : Module) (files : Result (List Linked) LinkRefusal) (read : Result (List Module) LinkRefusal) → m.imports ≡ [] → Reads channel files read
      → Reads channel (files >>= λ fs. Ok (record { name = name; channel = channel; «module» = m } ∷ fs)) (read >>= λ ms. Ok (m ∷ ms))
  unfolding Reads
  more-read name m (Ok files) read none reads =
      (ap (λ r. r >>= λ ms. Ok (m ∷ ms)) reads.0, all_cons (IsOwn channel) (record { name = name; channel = channel; «module» = m }) files (record { same = refl; nothing = none }) reads.1)
  more-read name m (Err e) read none reads = ap (λ r. r >>= λ ms. Ok (m ∷ ms)) reads

  one-read : (name : List ℕ) (names : List (List ℕ)) (r : Result Module LinkRefusal) → ImportsNothing file name → file_module name (file name) ≡ r → Reads channel (read_each file (included_by channel names)) (modules_in file names)
      → Reads channel (r >>= λ m. read_each file (included_by channel names) >>= λ fs. Ok (record { name = name; channel = channel; «module» = m } ∷ fs)) (r >>= λ m. modules_in file names >>= λ ms. Ok (m ∷ ms))
  unfolding Reads
  one-read name names (Ok m) nothing is reads = more-read name m (read_each file (included_by channel names)) (modules_in file names) (nothing m is) reads
  one-read name names (Err e) nothing is reads = refl

  all_read : (names : List (List ℕ)) → ((i : ℕ) (name : List ℕ) → slice_get names i ≡ Some name → ImportsNothing file name) → Reads channel (read_each file (included_by channel names)) (modules_in file names)
  unfolding Reads
  all_read [] nothing = (refl, all_nil (IsOwn channel))
  all_read (name ∷ names) nothing = one-read name names (file_module name (file name)) (nothing 0 name refl) refl (all_read names (λ (i : ℕ). nothing (suc i)))

-- ---- they are joined as their modules are

module _ (channel : List ℕ) where
  same_entries : (own : List ℕ) (es : List DefaultEntry) → own ≡ channel → entries_for channel own es ≡ es
  same_entries own es same = ap (λ b. if b then es else kept_entries own es) (ap (λ c. bytes_eq c channel) same ∙ bytes_same channel)

  same_features : (own : List ℕ) (fs : List (List ℕ × FeatureDefinition)) → own ≡ channel → map (feature_for channel own) fs ≡ fs
  same_features own [] same = refl
  same_features own (f ∷ fs) same =
      ap (λ (es : List DefaultEntry). (f.0, record f.1 { defaults = es }) ∷ map (feature_for channel own) fs) (same_entries own f.1.defaults same) ∙ ap (λ (l : List (List ℕ × FeatureDefinition)). f ∷ l) (same_features own fs same)

  same_modules : (files : List Linked) → AreOwn channel files → map (module_for channel) files ≡ modules files
  same_modules [] own = refl
  same_modules (f ∷ fs) own =
      ap (λ (features : List (List ℕ × FeatureDefinition)). record f.module { features = features } ∷ map (module_for channel) fs) (same_features f.channel f.module.features (all_head (IsOwn channel) f fs own).same)
      ∙ ap (λ (ms : List Module). f.module ∷ ms) (same_modules fs (all_tail (IsOwn channel) f fs own))

  no_overrides : (files : List Linked) → AreOwn channel files → overrides_of channel files ≡ []
  no_overrides [] own = refl
  no_overrides (f ∷ fs) own =
      ap (λ (is : List Import). flat_map (import_overrides channel f.channel) is ++ overrides_of channel fs) (all_head (IsOwn channel) f fs own).nothing ∙ no_overrides fs (all_tail (IsOwn channel) f fs own)

  no_import : (find : Import → Option (List ℕ)) (files : List Linked) → AreOwn channel files → first_found (λ (f : Linked). first_found find f.module.imports) files ≡ None
  no_import find [] own = refl
  no_import find (f ∷ fs) own =
      ap (λ (is : List Import). option_or (first_found find is) (first_found (λ (f : Linked). first_found find f.module.imports) fs)) (all_head (IsOwn channel) f fs own).nothing ∙ no_import find fs (all_tail (IsOwn channel) f fs own)

  same_root : (files : List Linked) → root_channels files ≡ plain.root_channels (modules files)
  same_root [] = refl
  same_root (f ∷ fs) = refl

  -- the manifest of definitions over which nothing is laid
  plainly : Tables → Bool → Result Manifest JoinRefusal
  plainly t has_channel = checked (manifest_of t channel) has_channel None None

  same_made : (t : Tables) (files : List Linked) → AreOwn channel files → made_of t (overrides_of channel files) files channel ≡ plainly t (is_among channel (plain.root_channels (modules files)))
  unfolding plainly
  same_made t files own =
      ap (λ (os : List (List ℕ × List DefaultEntry)). made_of t os files channel) (no_overrides files own)
      ∙ ap (λ (features : List (List ℕ × FeatureDefinition)). checked (record { types = record { enums = t.enums; objects = t.objects }; features = features; channel = channel }) (is_among channel (root_channels files)) (first_unknown_import files) None) (over_nothing t.features)
      ∙ ap (λ o. checked (manifest_of t channel) (is_among channel (root_channels files)) o None) (no_import (unknown_import files) files own)
      ∙ ap (λ cs. checked (manifest_of t channel) (is_among channel cs) None None) (same_root files)

  same_joined : (files : List Linked) → AreOwn channel files → joined files channel ≡ joined_modules (modules files) channel
  unfolding joined joined_modules checked plainly
  same_joined files own =
      ap (λ (ms : List Module). join.◌>>=◌ (tables_of ms) (λ t. made_of t (overrides_of channel files) files channel)) (same_modules files own)
      ∙ elim (tables_of (modules files)) as (λ (r : Result Tables JoinRefusal). join.◌>>=◌ r (λ t. made_of t (overrides_of channel files) files channel) ≡ join.◌>>=◌ r (λ t. plainly t (is_among channel (plain.root_channels (modules files))))) [
        | Ok t ↦ same_made t files own
        | Err e ↦ refl
      ]

  same-linked : (files : Result (List Linked) LinkRefusal) (read : Result (List Module) LinkRefusal) → Reads channel files read → (files >>= λ fs. of_files (joined fs channel)) ≡ (read >>= λ ms. of_files (joined_modules ms channel))
  unfolding Reads
  same-linked (Ok files) read reads = ap of_files (same_joined files reads.1) ∙ sym (ap (λ r. r >>= λ ms. of_files (joined_modules ms channel)) reads.0)
  same-linked (Err e) read reads = sym (ap (λ r. r >>= λ ms. of_files (joined_modules ms channel)) reads)

pub linked_as_included : LinkAsIncluded
unfolding linked included
linked_as_included file root nothing channel =
    ap (λ r. (r >>= λ l. read_each file l) >>= λ fs. of_files (joined fs channel)) (same_list file root nothing channel 64) ∙ both-linked (names_after file root 64) refl
  where
    both-linked : (r : Result (List (List ℕ)) LinkRefusal) → names_after file root 64 ≡ r → ((listed channel r >>= λ l. read_each file l) >>= λ fs. of_files (joined fs channel)) ≡ (r >>= λ names. modules_in file names >>= λ ms. of_files (joined_modules ms channel))
    both-linked (Ok names) is = same-linked channel (read_each file (included_by channel names)) (modules_in file names) (all_read file channel names (none_imports file root nothing channel names is))
    both-linked (Err e) is = refl
