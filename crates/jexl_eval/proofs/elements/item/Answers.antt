use Rattle.std.proofs.Common.{FitsSigned, w64, sym, ap, ◌∙◌}
use Rattle.std.proofs.lemmas.Int.{to_z-of_z}
use Rattle.json_tree.specs.Json.{items_of}
use Rattle.jexl_eval.specs.Elements.{or_null}
use Rattle.jexl_eval.proofs.Walking.{at_place}
use Rattle.jexl_eval.proofs.elements.item.Goals as goal

pub returns-else-place-lt0 : goal.returns-else-place-lt0
returns-else-place-lt0 c =
    let fits : FitsSigned w64 c.args.place = c.ranges.place in
    let low = simp to_z-of_z at c.if-place-lt0.false in
    let got = simp to_z-of_z at c.item_at.ensures in
    let place = at_place (items_of c.args.items.now) c.args.place low in
    c.value_or_null.ensures ∙ ap or_null got ∙ sym place
