-- What the layers lay is laid one after the other.
use Rattle.std.proofs.Common.{◌≡◌, map, Bor, IfOk, ap, ◌∙◌, subst}
use Rattle.std.specs.Prelude.{fold}
use Rattle.json_tree.specs.Json.{Json}
use Rattle.json_tree.specs.Tree.{json_of}
use Rattle.json_tree.specs.declared.tree.Tree.{Tree}
use Rattle.fml_value.specs.TypedOf.{typed_of}
use Rattle.fml_merge.specs.Features.{overlay_feature}
use Rattle.feature_serving.specs.Layers.{Layer}
use Rattle.feature_serving.specs.Lent.{view}
use Rattle.feature_serving.proofs.Gathering.{folded_over}
use Rattle.feature_serving.proofs.serving.lay.Goals as goal

abbrev tree_in : Bor Tree → Json
tree_in t = json_of t.now

pub returns-clause-value : goal.returns-clause-value
returns-clause-value c =
    let m = c.args.manifest.now in
    let f = c.args.feature.now in
    let base = typed_of c.args.value in
    let same = ap (λ xs. fold (overlay_feature m f) base xs) (ap (map tree_in) c.as_slice.ensures.value ∙ c.in_ok-patches.ensures) ∙ folded_over view (λ (l : Layer). l.value) (overlay_feature m f) base c.args.layers.now in
    subst (λ w. IfOk c.overlay_each.result (λ v. typed_of v ≡ w)) same c.overlay_each.ensures.value
