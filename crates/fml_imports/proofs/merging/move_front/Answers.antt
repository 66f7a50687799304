use Rattle.std.proofs.Common.{◌≡◌, ◌++◌, take, drop, sym, ap, ◌∙◌, append-nil, arith}
use Rattle.fml_imports.proofs.Adding.{moved}
use Rattle.fml_imports.proofs.merging.move_front.Goals as goal

pub loop-rest-preserved : goal.loop-rest-preserved
loop-rest-preserved g c =
    let turn = moved c.loop-rest.done.items c.loop-rest.left.items _ _ c.loop-rest.rest c.loop-rest-test.true c.in_ok-move_first.ensures.done c.in_ok-move_first.ensures.left in
    record { done = turn.0 ∙ c.loop-rest.invariant.done; left = turn.1 ∙ c.loop-rest.invariant.left }

pub returns-clause-done : goal.returns-clause-done
returns-clause-done g c =
    let none : 0 ≡ c.loop-rest.rest = omega arith in
    sym (append-nil c.loop-rest.done.items) ∙ ap (λ n. c.loop-rest.done.items ++ take n c.loop-rest.left.items) none ∙ c.loop-rest.invariant.done

pub returns-clause-left : goal.returns-clause-left
returns-clause-left g c =
    let none : 0 ≡ c.loop-rest.rest = omega arith in
    ap (λ n. drop n c.loop-rest.left.items) none ∙ c.loop-rest.invariant.left
