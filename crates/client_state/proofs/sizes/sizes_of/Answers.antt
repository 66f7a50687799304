use Rattle.client_state.proofs.Lengths.{sizes_are}
use Rattle.client_state.proofs.sizes.sizes_of.Goals as goal

pub returns-clause-sizes : goal.returns-clause-sizes
returns-clause-sizes c =
    sizes_are c.args.state.now c.sizes_of-enrolment.result c.size-events.result c.size-outbox.result c.size-preferences.result c.sizes_with.result c.sizes_with.ensures c.sizes_of-enrolment.ensures.sizes
    c.size-events.ensures.size
    c.size-outbox.ensures.size
    c.size-preferences.ensures.size
