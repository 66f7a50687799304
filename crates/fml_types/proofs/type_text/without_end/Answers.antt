use Rattle.std.proofs.Common.{sym, ◌∙◌, arith, ne_eqb}
use Rattle.fml_types.proofs.Spaces.{last_space, last_other}
use Rattle.fml_types.proofs.type_text.without_end.Goals as goal

pub returns-then-bytes-len-ne32 : goal.returns-then-bytes-len-ne32
returns-then-bytes-len-ne32 c = sym (last_other c.args.bytes.now c.loop-len.len 0 (omega arith) c.loop-len.invariant.0 (ne_eqb _ 32 c.if-bytes-len-ne32.true)) ∙ c.loop-len.invariant.1

pub loop-len-preserved : goal.loop-len-preserved
loop-len-preserved c = (omega arith, sym (last_space c.args.bytes.now c.loop-len.len 0 (omega arith) c.loop-len.invariant.0 c.if-bytes-len-ne32.false) ∙ c.loop-len.invariant.1)
