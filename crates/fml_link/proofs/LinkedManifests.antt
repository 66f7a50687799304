-- What each linked manifest keeps.
use Rattle.std.proofs.Common.{◌≡◌, ◌≤◌, ℕ, Bool, true, false, List, [], ◌∷◌, length, Option, Some, None, Result, Ok, Err, refl, ap, ◌∙◌, subst}
use Rattle.std.specs.Prelude.{nat_le, nat_lt, if◌then◌else◌}
use Rattle.std.proofs.lemmas.Bool.{leb-true}
use Rattle.json_tree.proofs.SoundReading.{values_read_are_sound}
use Rattle.json_tree.specs.Bytes.{tree_of}
use Rattle.json_tree.specs.Json.{Json, IsSound, depth}
use Rattle.fml_types.specs.Named.{AreRising}
use Rattle.fml_types.specs.Sound.{IsSoundManifest}
use Rattle.fml_types.specs.declared.manifest.Manifest.{Manifest}
use Rattle.fml_reader.specs.Modules.{module_of}
use Rattle.fml_reader.specs.declared.fault.ModuleRefusal.{ModuleRefusal}
use Rattle.fml_reader.specs.declared.fault.ModuleRefusal.TheVariants as read
use Rattle.fml_reader.specs.declared.module.Module.{Module}
use Rattle.fml_imports.proofs.Alls.{all_nil, all_cons}
use Rattle.fml_imports.proofs.FormedManifests.{joined_formed}
use Rattle.fml_imports.proofs.RisingFeatures.{joined_rises}
use Rattle.fml_imports.proofs.SoundManifests.{joined_sound}
use Rattle.fml_imports.proofs.SoundSingles.{joined_single_sound}
use Rattle.fml_imports.specs.Joining.{joined}
use Rattle.fml_imports.specs.Sound.{IsRead, AreRead}
use Rattle.fml_imports.specs.declared.fault.JoinRefusal.{JoinRefusal}
use Rattle.fml_imports.specs.declared.joining.Linked.{Linked}
use Rattle.fml_link.specs.declared.fault.LinkRefusal.{LinkRefusal}
use Rattle.fml_link.specs.Files.{max_bytes, shallow_tree, file_tree, in_file, file_module, list_of, read_each, files_of}
use Rattle.fml_link.specs.Laws.{LinkedLinksBack}
use Rattle.fml_link.specs.Linking.{of_files, linked}
use Rattle.fml_link.proofs.Linked.{bind_ok}
use Rattle.fml_link.proofs.SingleFiles.{links_back}

-- where the values of bytes are sound
module _ (values_are_sound : (bytes : List ℕ) (x : Json) → tree_of bytes ≡ Some x → IsSound x) where
  -- a sound value that nests at most 64 deep
  abbrev IsShallow : Json → Type 0
  IsShallow x = IsSound x × (depth x ≤ 64)

  unless-deep : (shallow : Bool) (tree x : Json) (refusal : LinkRefusal) → nat_le (depth tree) 64 ≡ shallow → IsSound tree → (if shallow then Ok tree else Err refusal) ≡ Ok x → IsShallow x
  unless-deep true tree x refusal is sound h = let same : tree ≡ x = cc in subst IsShallow same (sound, leb-true (depth tree) 64 is)
  unless-deep false tree x refusal is sound h = absurd cc

  shallow : (name bytes : List ℕ) (o : Option Json) (x : Json) → tree_of bytes ≡ o → shallow_tree name o ≡ Ok x → IsShallow x
  shallow name bytes None x is h = absurd cc
  shallow name bytes (Some tree) x is h = unless-deep (nat_le (depth tree) 64) tree x _ refl (values_are_sound bytes tree is) h

  unless-large : (large : Bool) (name bytes : List ℕ) (x : Json) (refusal : LinkRefusal) → (if large then Err refusal else shallow_tree name (tree_of bytes)) ≡ Ok x → IsShallow x
  unless-large true name bytes x refusal h = absurd cc
  unless-large false name bytes x refusal h = shallow name bytes (tree_of bytes) x refl h

  tree_shallow : (name : List ℕ) (file : Option (List ℕ)) (x : Json) → file_tree name file ≡ Ok x → IsShallow x
  unfolding file_tree
  tree_shallow name None x h = absurd cc
  tree_shallow name (Some bytes) x h = unless-large (nat_lt max_bytes (length bytes)) name bytes x _ h

  module_in : (name : List ℕ) (x : Json) (found : Result Module ModuleRefusal) (m : Module) → IsShallow x → module_of x ≡ found → in_file name found ≡ Ok m → IsRead m
  module_in name x (Ok n) m kept e h = let same : n ≡ m = cc in record { tree = x; sound = kept.0; shallow = kept.1; reads = e ∙ ap (λ k. Ok k) same }
  module_in name x (Err (read.BadShape path)) m kept e h = absurd cc

  file_read : (name : List ℕ) (file : Option (List ℕ)) (m : Module) → file_module name file ≡ Ok m → IsRead m
  unfolding file_module
  file_read name file m h =
      let x = bind_ok (file_tree name file) (λ x. in_file name (module_of x)) m h in
      module_in name x.0 (module_of x.0) m (tree_shallow name file x.0 x.1) refl x.2

  each_read : (file : List ℕ → Option (List ℕ)) (list : List (List ℕ × List ℕ)) (all : List Linked) → read_each file list ≡ Ok all → AreRead all
  each_read file [] all h = let same : [] ≡ all = cc in subst AreRead same (all_nil (λ (f : Linked). IsRead f.module))
  each_read file (f ∷ fs) all h =
      let m = bind_ok (file_module f.0 (file f.0)) _ all h in
      let rest = bind_ok (read_each file fs) (λ others. Ok (record { name = f.0; channel = f.1; «module» = m.0 } ∷ others)) all m.2 in
      let same : record { name = f.0; channel = f.1; «module» = m.0 } ∷ rest.0 ≡ all = cc in
      subst AreRead same (all_cons (λ (f : Linked). IsRead f.module) (record { name = f.0; channel = f.1; «module» = m.0 }) rest.0 (file_read f.0 (file f.0) m.0 m.1) (each_read file fs rest.0 rest.1))

  of_joined : (r : Result Manifest JoinRefusal) (m : Manifest) → of_files r ≡ Ok m → r ≡ Ok m
  of_joined (Ok n) m h = let same : n ≡ m = cc in ap (λ k. Ok k) same
  of_joined (Err e) m h = absurd cc

  -- the files of which it is joined are read
  files_read : (file : List ℕ → Option (List ℕ)) (root channel : List ℕ) (m : Manifest) → linked file root channel ≡ Ok m → (files : List Linked) × AreRead files × (joined files channel ≡ Ok m)
  unfolding linked
  files_read file root channel m h =
      let files = bind_ok (files_of file root channel) (λ fs. of_files (joined fs channel)) m h in
      let list = bind_ok (list_of file root channel) (read_each file) files.0 files.1 in
      (files.0, each_read file list.0 files.0 list.2, of_joined (joined files.0 channel) m files.2)

  -- it is sound, and its features are in order
  pub linked_kept : (file : List ℕ → Option (List ℕ)) (root channel : List ℕ) (m : Manifest) → linked file root channel ≡ Ok m → IsSoundManifest m × AreRising m.features
  linked_kept file root channel m h = let made = files_read file root channel m h in (joined_sound made.0 channel m made.1 made.2, joined_rises made.0 channel m made.2)

-- its single file links back
pub linked_links_back : LinkedLinksBack
linked_links_back file root channel m h =
    let made = files_read values_read_are_sound file root channel m h in
    links_back m (joined_formed made.0 channel m made.1 made.2) (joined_single_sound made.0 channel m made.1 made.2)
