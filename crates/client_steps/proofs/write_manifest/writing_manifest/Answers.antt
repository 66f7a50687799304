-- The tree of the single file is answered, and its text makes the manifest again.
use Rattle.std.proofs.Common.{◌≡◌, Some, sym, ap, ◌∙◌, subst}
use Rattle.json_tree.specs.declared.tree.Tree.{Tree}
use Rattle.fml_imports.specs.Single.{single}
use Rattle.client_words.specs.declared.answer.Answer.TheVariants as answers
use Rattle.client_steps.specs.Asked.{asked_outcome, answer_for}
use Rattle.client_steps.specs.Steps.{Accepted, writing_manifest}
use Rattle.client_steps.specs.WrittenManifests.{IsWritten}
use Rattle.client_steps.proofs.Trees.{tree_of_value}
use Rattle.client_steps.proofs.WrittenManifests.{written}
use Rattle.client_steps.proofs.write_manifest.writing_manifest.Goals as goal

pub returns-clause-asks : goal.returns-clause-asks
returns-clause-asks c s =
    let session = c.args.session.now in
    let manifest = c.manifest.result.now in
    let tree = c.in_ok-tree.tree in
    ap (asked_outcome s session) c.same.ensures
    ∙ ap (λ (t : Tree). Accepted s session (answers.Manifest t)) (tree_of_value tree (single manifest) c.in_ok-tree.ensures.file)
    ∙ ap (writing_manifest s session) (sym (c.in-Some.is ∙ ap Some (sym c.manifest.ensures.manifest)))

pub returns-clause-written : goal.returns-clause-written
returns-clause-written c tree is =
    let session = c.args.session.now in
    let said : answers.Manifest c.in_ok-tree.tree ≡ answers.Manifest tree = ap answer_for (sym c.same.ensures) ∙ is in
    let same : c.in_ok-tree.tree ≡ tree = cc in
    subst (IsWritten session) same
    (written session c.manifest.result.now c.in_ok-tree.tree (c.in-Some.is ∙ ap Some (sym c.manifest.ensures.manifest)) c.manifest.ensures.linked c.in_ok-tree.ensures.file)
