-- One more byte: a plain one stands for itself.
use Rattle.std.proofs.Common.{get_or, sym, ◌∙◌, arith}
use Rattle.json_length.proofs.Lengths.{escape_more, plain_one}
use Rattle.json_length.proofs.texts.added_length.Goals as goal
use Rattle.json_length.proofs.texts.added_length.Goals.{then-not-is_plain, else-not-is_plain}

pub loop-byte-preserved : goal.loop-byte-preserved
loop-byte-preserved c =
    let more = escape_more c.args.bytes.now c.loop-byte.byte-index 0 c.loop-byte-test.true in
    elim c.if-not-is_plain.branch [
      | then-not-is_plain w ↦ record {
        length = omega (arith, more, w.added-is, w.added_for-added.ensures.length, c.loop-byte.invariant.length);
        bound = omega (arith, w.added-is, w.added_for-added.ensures.bound, c.loop-byte.invariant.bound);
      }
      | else-not-is_plain w ↦ record {
        length = omega (arith, more, w.added-is, plain_one (get_or c.args.bytes.now c.loop-byte.byte-index 0) (sym c.is_plain.ensures ∙ w.if-not-is_plain.false), c.loop-byte.invariant.length);
        bound = omega (arith, w.added-is, c.loop-byte.invariant.bound);
      }
    ]
