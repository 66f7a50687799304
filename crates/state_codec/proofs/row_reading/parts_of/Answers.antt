-- One row more, which isn't that of the id.
use Rattle.std.proofs.Common.{arith, sym, ◌∙◌}
use Rattle.state_codec.proofs.Parts.{before_turn, from_turn}
use Rattle.state_codec.proofs.row_reading.parts_of.Goals as goal

pub loop-place-preserved : goal.loop-place-preserved
loop-place-preserved c =
    let rows = c.args.rows.now in
    let place = c.loop-place.place in
    let row = c.index-rows-place.result in
    let no = sym c.is_of_id.ensures ∙ c.if-is_of_id.false in
    record {
      first = before_turn rows place row (omega arith) c.index-rows-place.is no c.loop-place.invariant.first;
      later = from_turn rows place row (omega arith) c.index-rows-place.is no c.loop-place.invariant.later;
    }
