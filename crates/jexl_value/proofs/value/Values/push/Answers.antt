use Rattle.std.proofs.Common.{sym, map, subst}
use Rattle.json_tree.specs.Json.{items_of}
use Rattle.jexl_value.specs.Kept.{AreValues}
use Rattle.jexl_value.specs.Value.{as_json}
use Rattle.json_tree.proofs.Growing.{map-push}
use Rattle.jexl_value.proofs.Growing.{AreValues-push}
use Rattle.jexl_value.proofs.value.Values.push.Goals as goal

pub invariant_of-self-2 : goal.invariant_of-self-2
invariant_of-self-2 c =
    let old = c.self.inside.items.items in
    subst (λ xs. AreValues (items_of xs)) (sym (map-push as_json old _ c.args.item c.in_ok-push.ensures.items)) (AreValues-push (map as_json old) (as_json c.args.item) c.self.invariant c.keeps.ensures.sound)
