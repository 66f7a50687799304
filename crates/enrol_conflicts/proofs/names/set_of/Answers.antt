use Rattle.std.proofs.Common.{◌+◌, ◌≡◌, ap₂, ◌∙◌, sym, take, get_or, bytes_eq, ◌||◌}
use Rattle.std.proofs.lemmas.List.Folds.{list_any_more}
use Rattle.enrol_states.specs.Order.{is_in}
use Rattle.enrol_states.specs.TextSets.{has_text}
use Rattle.enrol_states.proofs.Sets.{has_text-insert}
use Rattle.enrol_conflicts.proofs.names.set_of.Goals as goal

pub loop-name-preserved : goal.loop-name-preserved
loop-name-preserved c = λ f.
    let e : has_text c.insert.new.self f ≡ (has_text c.loop-name.set f || bytes_eq c.as_str.result.now f) = has_text-insert c.loop-name.set c.insert.new.self c.as_str.result c.in_ok-insert.ensures.updates f in
    let m : is_in (take (c.loop-name.name-index + 1) c.args.names.now) f ≡ (is_in (take c.loop-name.name-index c.args.names.now) f || bytes_eq (get_or c.args.names.now c.loop-name.name-index c.name-item.result) f) = list_any_more (λ x. bytes_eq x f) c.args.names.now c.loop-name.name-index c.name-item.result c.loop-name-test.true in
    e ∙ ap₂ (λ a b. a || bytes_eq b f) (c.loop-name.invariant f) (c.as_str.ensures.text ∙ c.name-item.is) ∙ sym m
