-- The part's old rows go, and its new ones come.
use Rattle.client_state.proofs.EventParts.{removed_short, size_after}
use Rattle.client_state.proofs.sizes.next_events_size.Goals as goal

pub overflow_sub-result : goal.overflow_sub-result
overflow_sub-result c = removed_short c.args.old.now c.args.next.now c.requires.next c.args.before c.size_of_old-removed.result c.requires.before c.size_of_old-removed.ensures.size

pub returns-clause-size : goal.returns-clause-size
returns-clause-size c =
    size_after c.args.old.now c.args.next.now c.requires.next c.args.before c.size_of_old-removed.result c.requires.before c.size_of_old-removed.ensures.size c.size_of_new-added.result c.size_of_new-added.ensures.size
