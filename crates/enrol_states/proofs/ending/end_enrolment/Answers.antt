use Rattle.std.proofs.Common.{List, ℕ, ap₂}
use Rattle.enrol_states.specs.declared.state.Row.{Row}
use Rattle.enrol_states.proofs.Answered.{if_consistent}
use Rattle.enrol_states.proofs.OptOuts.{ended_is_consistent}
use Rattle.enrol_states.proofs.ending.end_enrolment.Goals as goal

pub returns-clause-consistent : goal.returns-clause-consistent
returns-clause-consistent c =
    let s = c.args.state.now in
    let slug = c.args.slug.now in
    let lists = ap₂ (λ (slugs : List (List ℕ)) (rows : List Row). record s { opted_out = slugs; rows = rows }) c.in_ok-opted_out.ensures.list c.in_ok-rows.ensures.rows in
    if_consistent c.with_next.result _ _ lists (ended_is_consistent s slug c.requires) c.with_next.ensures.state
