use Rattle.std.proofs.Common.{rules, sym, ap, ◌∙◌, subst}
use Rattle.std.proofs.lemmas.Fn.{always_returns_same}
use Rattle.enrol_states.proofs.Ordered.{order_by}
use Rattle.app_context.specs.Named.{AreInOrder, text_with}
use Rattle.app_context.proofs.Names.{name_of, text-at, text-absent}
use Rattle.app_context.proofs.named.NamedTexts.get.Goals as goal

pub returns-in-Ok : goal.returns-in-Ok
returns-in-Ok c =
    let pairs = c.as_slice-pairs.result.now in
    let name = c.args.name.now in
    let order = subst AreInOrder (sym c.as_slice-pairs.ensures.pairs) c.as_slice-pairs.ensures.in_order in
    let here = c.in-Ok.ensures.position (order_by name_of name) (always_returns_same _ _ _ (λ a r g called. search rules)) in
    sym (text-at name pairs c.in-Ok.place c.index-pairs-place.result c.in-Ok.ensures.bound order (here c.index-pairs-place.result)) ∙ ap (λ ps. text_with name ps) c.as_slice-pairs.ensures.pairs

pub returns-in-Err : goal.returns-in-Err
returns-in-Err c =
    let pairs = c.as_slice-pairs.result.now in
    let name = c.args.name.now in
    let order = subst AreInOrder (sym c.as_slice-pairs.ensures.pairs) c.as_slice-pairs.ensures.in_order in
    let nowhere = c.in-Err.ensures.position (order_by name_of name) (always_returns_same _ _ _ (λ a r g called. search rules)) in
    sym (text-absent name pairs c.in-Err.field-0 order nowhere) ∙ ap (λ ps. text_with name ps) c.as_slice-pairs.ensures.pairs
