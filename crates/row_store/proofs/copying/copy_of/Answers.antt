use Rattle.row_store.proofs.Copied.{may_push}
use Rattle.row_store.proofs.copying.copy_of.Goals as goal

pub push-requires-clause-next : goal.push-requires-clause-next
push-requires-clause-next c =
    (may_push c.args.batch.now c.loop-change.copy c.changes-changes.result.now c.loop-change.change-index c.change-item.result c.in_ok-copy_of_change.field-0 c.changes-changes.ensures.rules c.changes-changes.ensures.changes
    c.loop-change.invariant.clear c.loop-change.invariant.changes c.loop-change-test.true c.change-item.is c.in_ok-copy_of_change.ensures).next

pub push-requires-clause-room : goal.push-requires-clause-room
push-requires-clause-room c =
    (may_push c.args.batch.now c.loop-change.copy c.changes-changes.result.now c.loop-change.change-index c.change-item.result c.in_ok-copy_of_change.field-0 c.changes-changes.ensures.rules c.changes-changes.ensures.changes
    c.loop-change.invariant.clear c.loop-change.invariant.changes c.loop-change-test.true c.change-item.is c.in_ok-copy_of_change.ensures).room

pub push-requires-clause-puts : goal.push-requires-clause-puts
push-requires-clause-puts c =
    (may_push c.args.batch.now c.loop-change.copy c.changes-changes.result.now c.loop-change.change-index c.change-item.result c.in_ok-copy_of_change.field-0 c.changes-changes.ensures.rules c.changes-changes.ensures.changes
    c.loop-change.invariant.clear c.loop-change.invariant.changes c.loop-change-test.true c.change-item.is c.in_ok-copy_of_change.ensures).puts
