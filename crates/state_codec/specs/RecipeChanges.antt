-- The changes of a state's recipes, of the slugs that are opted out, and of the rows.
use Rattle.std.specs.Prelude.{List, map, codes}
use Rattle.enrol_states.specs.declared.state.State.{State}
use Rattle.row_batches.specs.Between.{changes_between}
use Rattle.row_batches.specs.declared.change.RowChange.{RowChange}
use Rattle.state_codec.specs.Encoding.{key_row, recipe_row, status_row, pending_recipes}

abbrev pub live_changes : State → State → List RowChange
live_changes s t = changes_between (map (recipe_row (codes "l")) s.live) (map (recipe_row (codes "l")) t.live)

abbrev pub pending_changes : State → State → List RowChange
pending_changes s t = changes_between (map (recipe_row (codes "n")) (pending_recipes s.pending)) (map (recipe_row (codes "n")) (pending_recipes t.pending))

abbrev pub opted_out_changes : State → State → List RowChange
opted_out_changes s t = changes_between (map (key_row (codes "o")) s.opted_out) (map (key_row (codes "o")) t.opted_out)

abbrev pub client_row_changes : State → State → List RowChange
client_row_changes s t = changes_between (map status_row s.rows) (map status_row t.rows)
