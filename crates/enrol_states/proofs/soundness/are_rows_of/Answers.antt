-- One row more.
use Rattle.std.proofs.Common.{refl}
use Rattle.enrol_states.specs.SoundParts.{IsRowOf}
use Rattle.enrol_states.proofs.Alls.{all_more, all_taken}
use Rattle.enrol_states.proofs.soundness.are_rows_of.Goals as goal

pub loop-row-preserved : goal.loop-row-preserved
loop-row-preserved c =
    all_more (IsRowOf c.args.state.now) c.args.rows.now c.loop-row.row-index c.row-item.result c.loop-row-test.true c.row-item.is c.loop-row.invariant (c.is_row_of.ensures.0 c.if-not-is_row_of.false)

pub returns : goal.returns
returns c = (λ is. all_taken (IsRowOf c.args.state.now) c.args.rows.now c.loop-row.row-index c.loop-row-test.false c.loop-row.invariant, λ all. refl)
