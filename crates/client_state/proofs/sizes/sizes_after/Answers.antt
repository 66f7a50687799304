-- The parts of a sound state are sound, and the sizes of the next ones are those of the next state.
use Rattle.client_state.specs.Changes.{state_after}
use Rattle.client_state.proofs.Lengths.{enrolment_sound, events_fit, outbox_fits, preferences_fit, sizes_are}
use Rattle.client_state.proofs.sizes.sizes_after.Goals as goal

pub enrolment_after-enrolment-requires-clause-old_state : goal.enrolment_after-enrolment-requires-clause-old_state
enrolment_after-enrolment-requires-clause-old_state c = enrolment_sound c.args.old.now c.requires.old_state

pub events_after-events-requires-clause-fits : goal.events_after-events-requires-clause-fits
events_after-events-requires-clause-fits c = events_fit c.args.old.now c.args.before c.requires.old_state c.requires.before

pub outbox_after-outbox-requires : goal.outbox_after-outbox-requires
outbox_after-outbox-requires c = outbox_fits c.args.old.now c.args.before c.requires.old_state c.requires.before

pub preferences_after-preferences-requires : goal.preferences_after-preferences-requires
preferences_after-preferences-requires c = preferences_fit c.args.old.now c.args.before c.requires.old_state c.requires.before

pub returns-clause-sizes : goal.returns-clause-sizes
returns-clause-sizes c =
    let old = c.args.old.now in
    sizes_are (state_after c.args.change.now old) c.enrolment_after-enrolment.result c.events_after-events.result c.outbox_after-outbox.result c.preferences_after-preferences.result c.sizes_with.result c.sizes_with.ensures
    c.enrolment_after-enrolment.ensures.sizes
    c.events_after-events.ensures.size
    (c.outbox_after-outbox.ensures.size old.outbox c.requires.before.outbox)
    (c.preferences_after-preferences.ensures.size old.preferences c.requires.before.preferences)
