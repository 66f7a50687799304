use Rattle.std.proofs.Common.{◌≡◌, length, sym, ap, ◌∙◌, subst}
use Rattle.enrol_states.specs.Order.{Rise}
use Rattle.enrol_conflicts.specs.Settlement.{Settled, SlugsRise}
use Rattle.enrol_conflicts.proofs.OwnSlugs.{own_slugs}
use Rattle.enrol_evolver.specs.Wishes.{wishes_of}
use Rattle.enrol_evolver.proofs.SettledRows.{entry_slugs, wish_slugs, wishes_in, grant_for_each}
use Rattle.enrol_evolver.proofs.PlannedWishes.{entries-rise, wishes-own, wishes-rise, live-settled}
use Rattle.enrol_evolver.proofs.Evolved.{only_grants}
use Rattle.enrol_evolver.proofs.evolution.evolved_rows.Goals as goal

pub planned-requires-clause-in_order : goal.planned-requires-clause-in_order
planned-requires-clause-in_order g c = record { rows = c.requires.rows; opted_out = c.requires.opted_out }

pub settle-requires : goal.settle-requires
settle-requires g c =
    let s = c.args.state.now in
    let wishes : c.as_slice.result.now ≡ wishes_of c.args.context.now s c.args.now = c.as_slice.ensures ∙ c.in_ok-plan.ensures.wishes in
    own_slugs c.as_slice.result.now (subst SlugsRise (sym wishes) (wishes-rise c.args.context.now s c.args.now c.requires.in_order))

pub settled_rows-requires-clause-order : goal.settled_rows-requires-clause-order
settled_rows-requires-clause-order g c =
    let s = c.args.state.now in
    subst (λ es. Rise (entry_slugs es)) (sym c.in_ok-plan.ensures.entries) (entries-rise c.args.context.now s c.args.now s.live c.requires.in_order)

pub settled_rows-requires-clause-wishes : goal.settled_rows-requires-clause-wishes
settled_rows-requires-clause-wishes g c =
    let s = c.args.state.now in
    ap wish_slugs c.in_ok-plan.ensures.wishes ∙ wishes-own c.args.context.now s c.args.now s.live ∙ sym (ap (λ es. entry_slugs (wishes_in es)) c.in_ok-plan.ensures.entries)

pub settled_rows-requires-clause-granted : goal.settled_rows-requires-clause-granted
settled_rows-requires-clause-granted g c =
    ap length c.as_slice-3.ensures ∙ grant_for_each c.as_slice.result.now c.as_slice-2.result.now c.in_ok-granted.granted c.in_ok-granted.ensures.settled ∙ ap length c.as_slice.ensures

pub merged_rows-requires-clause-live : goal.merged_rows-requires-clause-live
merged_rows-requires-clause-live g c =
    let s = c.args.state.now in
    let granted = c.in_ok-granted.granted in
    let wishes : c.as_slice.result.now ≡ wishes_of c.args.context.now s c.args.now = c.as_slice.ensures ∙ c.in_ok-plan.ensures.wishes in
    let settled : Settled (wishes_of c.args.context.now s c.args.now) s.coenrolling granted = subst (λ ws. Settled ws s.coenrolling granted) wishes (subst (λ names. Settled c.as_slice.result.now names granted) c.as_slice-2.ensures c.in_ok-granted.ensures.settled) in
    c.in_ok-live_rows.ensures ∙ live-settled c.args.context.now s c.args.now _ _ _ c.in_ok-plan.ensures.entries c.in_ok-plan.ensures.wishes (c.as_slice-3.ensures ∙ only_grants (wishes_of c.args.context.now s c.args.now) s.coenrolling granted settled)

pub merged_rows-requires-clause-in_order : goal.merged_rows-requires-clause-in_order
merged_rows-requires-clause-in_order g c = record { rows = c.requires.rows; opted_out = c.requires.opted_out }
