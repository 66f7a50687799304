-- The rows of the part alone change.
use Rattle.std.proofs.Common.{◌++◌, List, ◌∙◌, ap}
use Rattle.std.proofs.lemmas.Result.{on_ok_weaker}
use Rattle.row_batches.specs.declared.change.RowChange.{RowChange}
use Rattle.client_state.proofs.PreferenceParts.{holds_told}
use Rattle.client_state.proofs.changes.add_holds.Goals as goal

pub returns-in-Some : goal.returns-in-Some
returns-in-Some c =
    let is = rw c.in-Some.is at c.requires.next in
    rw c.in-Some.is
    (on_ok_weaker c.add_hold_changes_in.result
    (λ added. added ∙ ap (λ (cs : List RowChange). c.args.changes.now ++ cs) (holds_told c.args.old.now c.in-Some.next is c.requires.old_preferences))
    c.add_hold_changes_in.ensures)
