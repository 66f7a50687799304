-- A client that takes part.
use Rattle.enrol_states.proofs.SoundEnrolments.{enrolled_fits, may_be_enrolled_where}
use Rattle.enrol_states.proofs.soundness.is_row_of.Goals as goal

pub returns-in-Enrolled : goal.returns-in-Enrolled
returns-in-Enrolled c =
    let s = c.args.state.now in
    let row = c.args.row.now in
    let branch = c.in-Enrolled.branch in
    let reason = c.in-Enrolled.reason in
    let may = c.may_be_enrolled.ensures in
    (λ is. enrolled_fits s row.slug branch reason row.status c.in-Enrolled.is (may.0 is), λ fits. may.1 (may_be_enrolled_where s row.slug branch reason row.status c.in-Enrolled.is fits))
