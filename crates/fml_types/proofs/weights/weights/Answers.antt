use Rattle.std.proofs.Common.{sym, ap, ◌∙◌, subst, arith}
use Rattle.std.specs.Cmp.Lexicographic.{bytes_decides}
use Rattle.std.specs.Prelude.{length}
use Rattle.fml_types.specs.CappedWeights.{next_capped}
use Rattle.fml_types.specs.Values.{value_in, table}
use Rattle.fml_types.proofs.WeightRounds.{AreWeightsUpTo, weights_begin, weights_next, weights_settled, weights_end}
use Rattle.fml_types.proofs.weights.weights.Goals as goal

pub loop-init : goal.loop-init
loop-init c = weights_begin c.args.graph.now c.in_ok-weights.weights.items c.requires.low c.in_ok-weights.ensures

pub next_weights-requires-clause-count : goal.next_weights-requires-clause-count
next_weights-requires-clause-count c = ap length c.deref.ensures.value ∙ c.loop.invariant.count

pub returns-then-same : goal.returns-then-same
returns-then-same c =
    let next = c.in_ok-next.ensures ∙ ap (λ xs. table (next_capped c.args.graph.now (value_in xs)) (length c.args.graph.now)) c.deref.ensures.value in
    let alike = (bytes_decides c.deref-in-loop.result.now c.deref-in-loop-2.result.now).0 (sym c.same.ensures ∙ c.if-same.true) in
    weights_settled c.args.graph.now c.loop.weights.items c.in_ok-next.next.items c.requires.low c.loop.invariant.count next (sym c.deref-in-loop.ensures.value ∙ alike ∙ c.deref-in-loop-2.ensures.value)

pub loop-preserved : goal.loop-preserved
loop-preserved c =
    let next = c.in_ok-next.ensures ∙ ap (λ xs. table (next_capped c.args.graph.now (value_in xs)) (length c.args.graph.now)) c.deref.ensures.value in
    weights_next c.args.graph.now c.loop.counter c.loop.weights.items c.in_ok-next.next.items c.requires.low c.loop.invariant next

pub returns : goal.returns
returns c = weights_end c.args.graph.now c.loop.weights.items c.requires.low (subst (λ k. AreWeightsUpTo c.args.graph.now k c.loop.weights.items) (omega (arith, c.loop-test.false)) c.loop.invariant)
