-- The tree of the served value is answered.
use Rattle.std.proofs.Common.{◌≡◌, ℕ, List, Some, sym, ap, ◌∙◌, subst}
use Rattle.fml_value.specs.TypedOf.{typed_of}
use Rattle.feature_serving.specs.Serving.{served, HasFeatureType}
use Rattle.client_steps.specs.Asked.{asked_outcome, answer_for}
use Rattle.client_steps.proofs.ServedValues.{typed_answer, serving_is}
use Rattle.client_steps.proofs.feature.serving.Goals as goal

pub returns-in_ok-tree-in-Ok-clause-typed : goal.returns-in_ok-tree-in-Ok-clause-typed
returns-in_ok-tree-in-Ok-clause-typed c =
    let s = c.args.state.now in
    let manifest = c.manifest.result.now in
    let value = typed_of c.in-Ok.value in
    typed_answer s c.args.session.now c.args.name.now manifest (c.in-Some.is ∙ ap Some (sym c.manifest.ensures.manifest)) value
    (subst (λ (n : List ℕ). served manifest s.enrolment n ≡ Some value) c.as_str.ensures.text c.in-Ok.ensures.answer)
    c.in_ok-tree-in-Ok.tree c.in_ok-tree-in-Ok.ensures (answer_for c.same.result) (ap answer_for c.same.ensures)
    (subst (λ (n : List ℕ). HasFeatureType manifest n value) c.as_str.ensures.text c.in-Ok.ensures.has_type)

pub returns-in_ok-tree-in-Ok-clause-asks : goal.returns-in_ok-tree-in-Ok-clause-asks
returns-in_ok-tree-in-Ok-clause-asks c =
    let s = c.args.state.now in
    let session = c.args.session.now in
    let manifest = c.manifest.result.now in
    let value = typed_of c.in-Ok.value in
    ap (asked_outcome s session) c.same.ensures
    ∙ serving_is s session c.args.name.now manifest (c.in-Some.is ∙ ap Some (sym c.manifest.ensures.manifest)) value
    (subst (λ (n : List ℕ). served manifest s.enrolment n ≡ Some value) c.as_str.ensures.text c.in-Ok.ensures.answer)
    c.in_ok-tree-in-Ok.tree c.in_ok-tree-in-Ok.ensures
