use Rattle.std.proofs.Common.{◌≡◌, map, drop}
use Rattle.json_tree.specs.Json.{items_of}
use Rattle.jexl_value.specs.Value.{as_json}
use Rattle.jexl_eval.specs.Elements.{is_item}
use Rattle.jexl_eval.proofs.elements.is_item.Given as goal

abbrev pub invariant-loop-item : goal.invariant-loop-item
invariant-loop-item l = is_item (as_json l.value) (items_of l.items) ≡ is_item (as_json l.value) (items_of (map as_json (drop l.item-index l.values)))
