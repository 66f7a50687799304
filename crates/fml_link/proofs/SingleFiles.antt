-- The single file of a well formed manifest links to the manifest.
use Rattle.std.proofs.Common.{◌≡◌, ◌<◌, ◌≤◌, ℕ, zero, suc, Bool, false, List, [], ◌∷◌, length, Option, Some, None, Result, Ok, Err, refl, ap, ◌∙◌, arith}
use Rattle.std.specs.Prelude.{nat_lt, slice_get, if◌then◌else◌}
use Rattle.std.proofs.lemmas.Bool.Decides.{nat_tests}
use Rattle.std.proofs.lemmas.Bool.{le-leb}
use Rattle.json_tree.specs.Json.{Json, IsSound, depth}
use Rattle.json_tree.specs.Bytes.{text_of, tree_of, max_depth}
use Rattle.json_tree.proofs.RoundTrip.{tree_of-text_of}
use Rattle.fml_types.specs.declared.manifest.Manifest.{Manifest}
use Rattle.fml_reader.specs.Modules.{module_of}
use Rattle.fml_reader.specs.declared.module.Module.{Module}
use Rattle.fml_imports.specs.Joining.{joined}
use Rattle.fml_imports.specs.Single.{single}
use Rattle.fml_imports.specs.WellFormed.{IsWellFormed}
use Rattle.fml_imports.specs.declared.joining.Linked.{Linked}
use Rattle.fml_imports.proofs.JoinsAlone.{joined_alone}
use Rattle.fml_imports.proofs.ReadsAgain.{alone, module_again}
use Rattle.fml_imports.proofs.Shallow.{single_shallow}
use Rattle.fml_link.specs.Files.{max_bytes, shallow_tree, file_tree, in_file, file_module, named_by, with_named, after_file, list_after, list_of, read_each, files_of}
use Rattle.fml_link.specs.Laws.{LinksBack}
use Rattle.fml_link.specs.Linking.{of_files, linked}
use Rattle.fml_link.specs.Outcome.{◌>>=◌}
use Rattle.fml_link.specs.declared.fault.LinkRefusal.{LinkRefusal}
use Rattle.fml_link.specs.declared.fault.LinkRefusal.TheVariants as refusals

abbrev done : {A : Type 0} → A → Result A LinkRefusal
done x = Ok x

bind_known : {A B : Type 0} (r : Result A LinkRefusal) (a : A) (f : A → Result B LinkRefusal) → r ≡ done a → (r >>= f) ≡ f a
bind_known {A = A} r a f h = ap (λ (x : Result A LinkRefusal). x >>= f) h

-- ---- what the file says

not_above : (n limit : ℕ) → n ≤ limit → nat_lt limit n ≡ false
not_above n limit h = grind (arith, nat_tests)

tree_again : (root : List ℕ) (x : Json) → IsSound x → depth x ≤ 64 → length (text_of x) ≤ max_bytes → file_tree root (Some (text_of x)) ≡ done x
unfolding file_tree
tree_again root x sound deep short =
    ap (λ (b : Bool). if b then Err (refusals.FileTooLarge root (length (text_of x))) else shallow_tree root (tree_of (text_of x))) (not_above (length (text_of x)) max_bytes short)
    ∙ ap (shallow_tree root) (tree_of-text_of x sound (omega arith))
    ∙ ap (λ (b : Bool). if b then done x else Err (refusals.NotJson root)) (le-leb (depth x) max_depth deep)

file_again : (root : List ℕ) (x : Json) (m : Module) → file_tree root (Some (text_of x)) ≡ done x → module_of x ≡ Ok m → file_module root (Some (text_of x)) ≡ done m
unfolding file_module
file_again root x m tree reads = bind_known (file_tree root (Some (text_of x))) x (λ y. in_file root (module_of y)) tree ∙ ap (in_file root) reads

-- ---- the list of files

module _ (file : List ℕ → Option (List ℕ)) (root : List ℕ) (m : Manifest) (says : file_module root (file root) ≡ done (alone m)) where
  abbrev only : List (List ℕ × List ℕ)
  only = (root, m.channel) ∷ []

  nothing_named : with_named only (named_by m.channel (alone m)) ≡ done only
  unfolding with_named
  nothing_named = refl

  after_each : (n : ℕ) → after_file file only (slice_get only n) ≡ done only
  after_each zero = bind_known (file_module root (file root)) (alone m) (λ r. with_named only (named_by m.channel r)) says ∙ nothing_named
  after_each (suc n) = refl

  list_stays : (n : ℕ) → list_after file root m.channel n ≡ done only
  unfolding list_after
  list_stays zero = refl
  list_stays (suc n) = bind_known (list_after file root m.channel n) only (λ list. after_file file list (slice_get list n)) (list_stays n) ∙ after_each n

  abbrev one : Linked
  one = record { name = root; channel = m.channel; «module» = alone m }

  read_alone : read_each file only ≡ done (one ∷ [])
  read_alone = bind_known (file_module root (file root)) (alone m) (λ r. Ok (record { name = root; channel = m.channel; «module» = r } ∷ [])) says

  files_alone : files_of file root m.channel ≡ done (one ∷ [])
  files_alone = bind_known (list_of file root m.channel) only (λ list. read_each file list) (list_stays 64) ∙ read_alone

  links_alone : IsWellFormed m → linked file root m.channel ≡ done m
  unfolding linked
  links_alone formed = bind_known (files_of file root m.channel) (one ∷ []) (λ files. of_files (joined files m.channel)) files_alone ∙ ap of_files (joined_alone m formed root)

pub single_links : (file : List ℕ → Option (List ℕ)) (root : List ℕ) (m : Manifest) → IsWellFormed m → IsSound (single m) → file root ≡ Some (text_of (single m)) → length (text_of (single m)) ≤ max_bytes → linked file root m.channel ≡ Ok m
single_links file root m formed sound stands short =
    let tree = tree_again root (single m) sound (single_shallow m formed) short in
    let says = ap (file_module root) stands ∙ file_again root (single m) (alone m) tree (module_again m formed) in
    links_alone file root m says formed

pub links_back : (m : Manifest) → IsWellFormed m → IsSound (single m) → LinksBack m
links_back m formed sound = λ file root stands short. single_links file root m formed sound stands short
