-- What `write-manifest` says makes the session's manifest again.
use Rattle.std.proofs.Common.{◌≡◌, ℕ, Bool, true, false, Option, Some, None, refl, sym, ◌∙◌, ap, subst}
use Rattle.std.specs.Prelude.{length, nat_lt, if◌then◌else◌}
use Rattle.json_tree.specs.Bytes.{text_of}
use Rattle.json_tree.specs.Json.{Json}
use Rattle.json_tree.specs.Tree.{json_of}
use Rattle.json_tree.specs.declared.tree.Tree.{Tree}
use Rattle.fml_types.specs.declared.manifest.Manifest.{Manifest}
use Rattle.fml_imports.specs.Single.{single}
use Rattle.json_tree.specs.Inverse.{tree_from}
use Rattle.client_state.specs.Sound.{max_size}
use Rattle.client_state.specs.Encoding.{encoding}
use Rattle.client_state.specs.declared.client_state.ClientState.{ClientState}
use Rattle.client_words.specs.declared.refusal.Refusal.TheVariants.{StateTooLarge}
use Rattle.client_words.specs.declared.answer.Answer.TheVariants as answers
use Rattle.client_steps.specs.declared.session.Session.{Session}
use Rattle.client_steps.specs.Manifests.{IsLinked, where_fits, checked, manifest_of}
use Rattle.client_steps.specs.Soundness.{IsLawfulManifest}
use Rattle.client_steps.specs.Steps.{Step, writing_manifest, done, step, unchanged}
use Rattle.client_steps.specs.WrittenManifests.{MakesAgain, IsWritten, ManifestsAreMadeAgain}
use Rattle.client_steps.proofs.LinkedManifests.{manifest_linked}
use Rattle.json_tree.proofs.Trees.{same_values}

makes_again : (m : Manifest) → IsLinked m → MakesAgain (text_of (single m)) m
unfolding manifest_of
makes_again m linked files name stands short = ap checked (linked.back files name stands short) ∙ ap (where_fits m) linked.fits

-- the tree is that of the manifest's single file
pub written : (session : Session) (m : Manifest) (tree : Tree) → session.manifest ≡ Some m → IsLinked m → json_of tree ≡ single m → IsWritten session tree
written session m tree set linked is = record { manifest = m; set = set; again = subst (λ (x : Json). MakesAgain (text_of x) m) (sym is) (makes_again m linked) }

-- a step's answer is a tree's only where its state isn't too large
answered : (large : Bool) (s : ClientState) (session : Session) (size : ℕ) (t tree : Tree) (to : Step)
    → (if large then unchanged s session (StateTooLarge size) else record { state = s; session = session; answer = answers.Manifest t }) ≡ to → to.answer ≡ answers.Manifest tree → t ≡ tree
answered true s session size t tree to made is = absurd cc
answered false s session size t tree to made is = cc

answered-in : (s : ClientState) (session : Session) (manifest : Option Manifest) (tree : Tree) → session.manifest ≡ manifest → IsLawfulManifest manifest → (done s session (writing_manifest s session manifest)).answer ≡ answers.Manifest tree → IsWritten session tree
answered-in s session None tree set lawful is = absurd cc
answered-in s session (Some m) tree set lawful is =
    let same : tree_from (single m) ≡ tree = answered (nat_lt max_size (length (encoding s))) s session (length (encoding s)) (tree_from (single m)) tree (done s session (writing_manifest s session (Some m))) refl is in
    written session m tree set (manifest_linked lawful.files lawful.first lawful.channel m lawful.links) (ap json_of (sym same) ∙ same_values (single m))

pub made_again : ManifestsAreMadeAgain
unfolding step
made_again at s session tree lawful is = answered-in s session session.manifest tree refl lawful.manifest is
