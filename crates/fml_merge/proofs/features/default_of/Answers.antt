use Rattle.std.proofs.Common.{◌≡◌, map, Bor, IfOk, sym, ap, ap₂, ◌∙◌, subst}
use Rattle.std.proofs.lemmas.Result.{IfOk-weaker}
use Rattle.json_tree.specs.Json.{Json}
use Rattle.json_tree.specs.Tree.{json_of}
use Rattle.json_tree.specs.declared.tree.Tree.{Tree}
use Rattle.fml_types.specs.Sound.{IsSoundTable, IsGrounded, AreSoundFields}
use Rattle.fml_value.specs.HasType.{AreFields}
use Rattle.fml_value.specs.Typed.{object, entries_of}
use Rattle.fml_value.specs.TypedOf.{typed_of}
use Rattle.fml_merge.specs.Features.{IsOfFeature, patches_for}
use Rattle.fml_merge.specs.Features as features
use Rattle.fml_merge.specs.Zero.{zero_of, initial}
use Rattle.fml_merge.proofs.Levels.{zeros_typed, low_objects}
use Rattle.fml_merge.proofs.Patches.{patches_laid}
use Rattle.fml_merge.proofs.Variables.{variables_typed}
use Rattle.fml_merge.proofs.features.default_of.Goals as goal

abbrev tree_in : Bor Tree → Json
tree_in t = json_of t.now

pub returns-clause-value : goal.returns-clause-value
returns-clause-value c =
    let m = c.args.manifest.now in
    let f = c.args.feature.now in
    let patches = ap (map tree_in) c.as_slice.ensures.value ∙ c.in_ok-patches.ensures ∙ ap₂ (λ n es. patches_for n es) c.as_str.ensures.text c.as_slice-entries.ensures in
    let same = ap₂ (λ es xs. features.overlay_each m f (object (entries_of es)) xs) c.in_ok-initial.ensures patches ∙ patches_laid m f (object (entries_of (initial (zero_of m.types) m.types f.variables))) f.defaults in
    subst (λ w. IfOk c.overlay_each.result (λ v. typed_of v ≡ w)) same c.overlay_each.ensures.value

pub returns-clause-typed : goal.returns-clause-typed
returns-clause-typed c =
    let m = c.args.manifest.now in
    let f = c.args.feature.now in
    IfOk-weaker c.overlay_each.result (λ v. IsSoundTable m.types → IsGrounded m.types → AreSoundFields m.types f.variables → IsOfFeature m f (object (entries_of c.in_ok-initial.field-0)) → IsOfFeature m f (typed_of v))
    (λ v. IsSoundTable m.types → IsGrounded m.types → AreSoundFields m.types f.variables → IsOfFeature m f (typed_of v))
    (λ v h table grounded sound. h table grounded sound
    (subst (λ es. AreFields m.types f.variables (entries_of es)) (sym c.in_ok-initial.ensures) (variables_typed m.types table (zeros_typed m.types table (low_objects m.types grounded)) f.variables sound)))
    c.overlay_each.ensures.typed
