use Rattle.std.proofs.Common.{sym, ap, ◌∙◌, subst, arith}
use Rattle.std.specs.Cmp.Lexicographic.{bytes_decides}
use Rattle.std.specs.Prelude.{length}
use Rattle.fml_types.specs.CappedHeights.{next_capped}
use Rattle.fml_types.specs.Values.{value_in, table}
use Rattle.fml_types.proofs.HeightRounds.{AreHeightsUpTo, heights_begin, heights_next, heights_settled, heights_end}
use Rattle.fml_types.proofs.heights.heights.Goals as goal

pub loop-init : goal.loop-init
loop-init c = heights_begin c.args.graph.now c.in_ok-heights.heights.items c.in_ok-heights.ensures

pub next_heights-requires-clause-count : goal.next_heights-requires-clause-count
next_heights-requires-clause-count c = ap length c.deref.ensures.value ∙ c.loop.invariant.count

pub returns-then-same : goal.returns-then-same
returns-then-same c =
    let next = c.in_ok-next.ensures ∙ ap (λ xs. table (next_capped c.args.graph.now (value_in xs)) (length c.args.graph.now)) c.deref.ensures.value in
    let alike = (bytes_decides c.deref-in-loop.result.now c.deref-in-loop-2.result.now).0 (sym c.same.ensures ∙ c.if-same.true) in
    heights_settled c.args.graph.now c.loop.heights.items c.in_ok-next.next.items c.loop.invariant.count next (sym c.deref-in-loop.ensures.value ∙ alike ∙ c.deref-in-loop-2.ensures.value)

pub loop-preserved : goal.loop-preserved
loop-preserved c =
    let next = c.in_ok-next.ensures ∙ ap (λ xs. table (next_capped c.args.graph.now (value_in xs)) (length c.args.graph.now)) c.deref.ensures.value in
    heights_next c.args.graph.now c.loop.counter c.loop.heights.items c.in_ok-next.next.items (omega (arith, c.loop-test.true)) c.loop.invariant next

pub returns : goal.returns
returns c = heights_end c.args.graph.now c.loop.heights.items (subst (λ k. AreHeightsUpTo c.args.graph.now k c.loop.heights.items) (omega (arith, c.loop-test.false)) c.loop.invariant)
