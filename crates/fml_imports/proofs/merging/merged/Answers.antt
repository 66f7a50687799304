use Rattle.std.proofs.Common.{◌++◌, rules}
use Rattle.fml_imports.specs.Merging.{count_below}
use Rattle.fml_imports.proofs.Adding.{added_turn, added_fails, drop_rises, first_next, rest_rises}
use Rattle.fml_imports.proofs.merging.merged.Goals as goal

pub loop-name-preserved : goal.loop-name-preserved
loop-name-preserved g c =
    let s = c.loop-name in
    let next = c.add.new in
    let rest = c.next.new.self.rest.items in
    let steps = c.in-Some.ensures.steps.0 in
    record {
      added = added_turn s.others.now c.from_name-others.result.now (s.done.items ++ s.left.items) (next.done.items ++ next.left.items) s.name-iterator.rest.items rest (c.in-Some.name, c.in-Some.value) _ c.from_name-others.ensures steps s.invariant.rest s.invariant.added c.in_ok-add.ensures.leaves;
      others = drop_rises s.others.now c.from_name-others.result.now _ c.from_name-others.ensures s.invariant.others;
      rest = rest_rises s.name-iterator.rest.items rest (c.in-Some.name, c.in-Some.value) steps s.invariant.rest;
      rising = c.in_ok-add.ensures.rising;
      above = first_next next.done.items s.name-iterator.rest.items rest (c.in-Some.name, c.in-Some.value) steps s.invariant.rest c.in_ok-add.ensures.above;
    }

pub returns-in_err-add : goal.returns-in_err-add
returns-in_err-add g c =
    let s = c.loop-name in
    let fails = added_fails _ s.others.now c.from_name-others.result.now (s.done.items ++ s.left.items) s.name-iterator.rest.items c.next.new.self.rest.items (c.in-Some.name, c.in-Some.value) _ c.from_name-others.ensures c.in-Some.ensures.steps.0 s.invariant.rest s.invariant.added c.in_err-add.ensures.leaves in
    search (rules, fails)
