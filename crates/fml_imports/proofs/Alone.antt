-- The single file of a well formed manifest, where it stands alone.
use Rattle.std.proofs.Common.{◌≡◌, ◌≤◌, ℕ, List, sym, subst, arith}
use Rattle.json_tree.proofs.RoundTrip.{tree_of-text_of}
use Rattle.json_tree.specs.Bytes.{text_of}
use Rattle.json_tree.specs.Json.{IsSound, depth}
use Rattle.json_tree.specs.Tree.{json_of}
use Rattle.json_tree.specs.declared.tree.Tree.{Tree}
use Rattle.fml_types.specs.declared.manifest.Manifest.{Manifest}
use Rattle.fml_imports.specs.Laws.{IsFileOf, IsTextOf}
use Rattle.fml_imports.specs.Single.{single}
use Rattle.fml_imports.specs.WellFormed.{IsWellFormed}
use Rattle.fml_imports.proofs.JoinsAlone.{joined_alone}
use Rattle.fml_imports.proofs.ReadsAgain.{alone, module_again}
use Rattle.fml_imports.proofs.Shallow.{single_shallow}

pub stands_alone : (m : Manifest) → IsWellFormed m → (name : List ℕ) → IsFileOf name (single m) m
stands_alone m formed name = (alone m, module_again m formed, joined_alone m formed name)

pub reads_back : (m : Manifest) (t : Tree) → json_of t ≡ single m → IsWellFormed m → (name : List ℕ) → IsFileOf name (json_of t) m
reads_back m t same formed name = subst (λ x. IsFileOf name x m) (sym same) (stands_alone m formed name)

pub stays_shallow : (m : Manifest) (t : Tree) → json_of t ≡ single m → IsWellFormed m → depth (json_of t) ≤ 64
stays_shallow m t same formed = subst (λ x. depth x ≤ 64) (sym same) (single_shallow m formed)

pub text_reads_back : (m : Manifest) (t : Tree) → json_of t ≡ single m → IsSound (json_of t) → IsWellFormed m → (name : List ℕ) → IsTextOf name (text_of (json_of t)) m
text_reads_back m t same sound formed name =
    let shallow = stays_shallow m t same formed in
    (json_of t, tree_of-text_of (json_of t) sound (omega (arith, shallow)), shallow, reads_back m t same formed name)
