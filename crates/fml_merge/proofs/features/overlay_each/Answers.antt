use Rattle.std.proofs.Common.{rules, ◌≡◌, ◌<◌, length, map, Bor, sym, ap, ◌∙◌, subst}
use Rattle.json_tree.specs.Json.{Json}
use Rattle.json_tree.specs.Tree.{json_of}
use Rattle.json_tree.specs.declared.tree.Tree.{Tree}
use Rattle.fml_value.specs.TypedOf.{typed_of}
use Rattle.fml_merge.specs.Features.{IsOfFeature}
use Rattle.fml_merge.specs.Laying.{members_in}
use Rattle.fml_merge.proofs.Layered.{no_items}
use Rattle.fml_merge.proofs.Patches.{each_is, none_over, each_typed}
use Rattle.fml_merge.proofs.features.overlay_each.Goals as goal

abbrev tree_in : Bor Tree → Json
tree_in t = json_of t.now

pub returns-then-is_empty-clause-value : goal.returns-then-is_empty-clause-value
returns-then-is_empty-clause-value c =
    let layers = c.as_slice-layers.result.now in
    let empty : length layers ≡ 0 = search rules in
    none_over c.args.manifest.now c.args.feature.now (typed_of c.args.base) (map tree_in c.args.patches.now)
    (sym c.in_ok-objects.ensures.layers ∙ ap (map members_in) (sym c.as_slice-layers.ensures.value ∙ no_items layers empty))

pub returns-clause-value : goal.returns-clause-value
returns-clause-value c =
    let some : 0 < length c.as_slice-layers.result.now = search rules in
    each_is c.args.manifest.now c.args.feature.now (typed_of c.args.base) (map tree_in c.args.patches.now) members_in c.as_slice-layers.result.now c.entries_in-base.result c.in_ok-lay_layers.field-0
    (ap (map members_in) c.as_slice-layers.ensures.value ∙ c.in_ok-objects.ensures.layers) some c.entries_in-base.ensures c.in_ok-lay_layers.ensures

pub returns-clause-typed : goal.returns-clause-typed
returns-clause-typed c = λ table grounded fields base.
    let m = c.args.manifest.now in
    let f = c.args.feature.now in
    let some : 0 < length c.as_slice-layers.result.now = search rules in
    let same = each_is m f (typed_of c.args.base) (map tree_in c.args.patches.now) members_in c.as_slice-layers.result.now c.entries_in-base.result c.in_ok-lay_layers.field-0
    (ap (map members_in) c.as_slice-layers.ensures.value ∙ c.in_ok-objects.ensures.layers) some c.entries_in-base.ensures c.in_ok-lay_layers.ensures in
    subst (IsOfFeature m f) (sym same) (each_typed m f table grounded fields (typed_of c.args.base) (map tree_in c.args.patches.now) base c.in_ok-objects.ensures.sound)
