use Rattle.std.proofs.Common.{◌≡◌, Some, slice_get, sym, subst}
use Rattle.json_tree.specs.Json.{members_of}
use Rattle.jexl_transforms.specs.Table.{has_transform}
use Rattle.jexl_value.specs.Value.{as_json}
use Rattle.jexl_eval.specs.Places.{trees_of}
use Rattle.jexl_eval.proofs.Parts.{nothing_known}
use Rattle.jexl_eval.proofs.evaluation.found.Goals as goal

pub evaluate-requires-clause-fits : goal.evaluate-requires-clause-fits
evaluate-requires-clause-fits g c = c.in_ok-places.ensures (trees_of c.as_slice.result.now) (λ k t e. subst (λ ns. slice_get (trees_of ns) k ≡ Some t) (sym c.as_slice.ensures.value) e)

pub evaluate-requires-clause-known : goal.evaluate-requires-clause-known
evaluate-requires-clause-known g c = nothing_known (has_transform c.args.table.now) (members_of c.args.attributes.now.pairs) (trees_of c.as_slice.result.now) (λ r. as_json r.value) c.in_ok-known.known.values.items c.in_ok-known.ensures
