-- The changes are a batch.
use Rattle.client_state.specs.Changes.{state_after}
use Rattle.client_state.proofs.Changed.{change_consistent, is_batch}
use Rattle.client_state.proofs.changes.changes_to.Goals as goal

pub of_changes-requires : goal.of_changes-requires
of_changes-requires c =
    let s = c.args.old.now in
    let change = c.args.change.now in
    is_batch s (state_after change s) c.in_ok-changes.changes c.requires.old_state (change_consistent s change c.requires.old_state c.requires.change) c.requires.old_size c.requires.new_size c.in_ok-changes.ensures
