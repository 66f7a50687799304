-- One more byte, and all of them.
use Rattle.std.proofs.Common.{length, ap, arith}
use Rattle.std.proofs.lemmas.Bool.{OnTrue_at, OnTrue_from}
use Rattle.std.proofs.lemmas.List.{take_all}
use Rattle.json.specs.Print.{escape}
use Rattle.json_length.proofs.Lengths.{plain_more}
use Rattle.json_length.proofs.texts.are_plain.Goals as goal

pub loop-byte-preserved : goal.loop-byte-preserved
loop-byte-preserved c = plain_more c.loop-byte.plain c.is_plain-plain.result c.args.bytes.now c.loop-byte.byte-index c.loop-byte-test.true c.is_plain-plain.ensures c.loop-byte.invariant

pub returns : goal.returns
returns c = OnTrue_from c.loop-byte.plain _ (λ plain.
    let all = ap (λ s. length (escape s)) (take_all c.loop-byte.byte-index c.args.bytes.now c.loop-byte-test.false) in
    omega (arith, all, OnTrue_at plain c.loop-byte.invariant))
