use Rattle.std.proofs.Common.{ap, ◌∙◌}
use Rattle.json_tree.specs.Json.{items_of}
use Rattle.fml_types.specs.Graph.{has_no_items}
use Rattle.fml_types.proofs.Counting.{some_items}
use Rattle.fml_types.proofs.graph.has_no_items.Goals as goal

pub returns-in_default : goal.returns-in_default
returns-in_default c = some_items c.as_slice.result.now c.in_default.len_at_least ∙ ap (λ xs. has_no_items (items_of xs)) c.as_slice.ensures.items
