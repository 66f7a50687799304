use Rattle.std.proofs.Common.{◌+◌, ◌<◌, length, sym, ◌∙◌, arith}
use Rattle.std.proofs.lemmas.Bool.Decides.{nat_tests}
use Rattle.version_compare.specs.Versions.{version_order}
use Rattle.version_compare.proofs.Splits.{cut_short, found_equal, found_other}
use Rattle.version_compare.proofs.comparing.compare_bytes.Goals.{then-not-is_empty, else-not-is_empty+then-not-is_empty-2}
use Rattle.version_compare.proofs.comparing.compare_bytes.Goals as goal

pub returns-then-is_ne : goal.returns-then-is_ne
returns-then-is_ne c = found_other (version_order c.args.a.now c.args.b.now) c.compare_parts-order.result c.loop-left.left.now c.loop-left.right.now c.cut.result.0.now c.cut-in-loop-left.result.0.now c.cut.result.1.now c.cut-in-loop-left.result.1.now c.loop-left.invariant.same c.cut.ensures c.cut-in-loop-left.ensures c.compare_parts-order.ensures (sym c.if-is_ne.true ∙ c.is_ne.ensures)

pub loop-left-smaller : goal.loop-left-smaller
loop-left-smaller c =
    let left = cut_short c.loop-left.left.now c.cut.result.0.now c.cut.result.1.now c.cut.ensures in
    let right = cut_short c.loop-left.right.now c.cut-in-loop-left.result.0.now c.cut-in-loop-left.result.1.now c.cut-in-loop-left.ensures in
    let some_left : 0 < length c.loop-left.left.now + length c.loop-left.right.now = elim c.if-not-is_empty.branch [ then-not-is_empty w ↦ grind (arith, nat_tests) | else-not-is_empty+then-not-is_empty-2 w ↦ grind (arith, nat_tests) ] in
    omega (arith, left, right, some_left)

pub loop-left-preserved : goal.loop-left-preserved
loop-left-preserved c = record { same = found_equal (version_order c.args.a.now c.args.b.now) c.compare_parts-order.result c.loop-left.left.now c.loop-left.right.now c.cut.result.0.now c.cut-in-loop-left.result.0.now c.cut.result.1.now c.cut-in-loop-left.result.1.now c.loop-left.invariant.same c.cut.ensures c.cut-in-loop-left.ensures c.compare_parts-order.ensures (sym c.if-is_ne.false ∙ c.is_ne.ensures) }
