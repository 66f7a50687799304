use Rattle.std.proofs.Common.{rules, ◌≡◌, sym, subst}
use Rattle.std.specs.List.{remove}
use Rattle.std.proofs.lemmas.Fn.{always_returns_same}
use Rattle.enrol_states.specs.Order.{Rise}
use Rattle.enrol_states.proofs.Answered.{if_listed}
use Rattle.enrol_states.proofs.Ordered.{order_by}
use Rattle.pref_bindings.specs.Preferences.{names_of}
use Rattle.pref_bindings.specs.Changes.{without_name}
use Rattle.pref_bindings.proofs.Order.{name_of}
use Rattle.pref_bindings.proofs.Places.{without_there, without_missed}
use Rattle.pref_bindings.proofs.setting.without_name.Goals as goal

pub returns-in-Ok-clause-preferences : goal.returns-in-Ok-clause-preferences
returns-in-Ok-clause-preferences c =
    let preferences = c.as_slice.result.now in
    let name = c.args.name.now in
    let here = c.in-Ok.ensures.position (order_by name_of name) (always_returns_same _ _ _ (λ a r g called. search rules)) in
    let rise = subst (λ ps. Rise (names_of ps)) (sym c.as_slice.ensures) c.requires in
    let left = without_there name preferences c.in-Ok.place c.in-Ok.ensures.bound rise here in
    if_listed c.removed.result _ _ (subst (λ ps. remove ps c.in-Ok.place ≡ without_name name ps) c.as_slice.ensures left) c.removed.ensures.list

pub returns-in-Err-clause-preferences : goal.returns-in-Err-clause-preferences
returns-in-Err-clause-preferences c =
    let preferences = c.as_slice.result.now in
    let name = c.args.name.now in
    let nowhere = c.in-Err.ensures.position (order_by name_of name) (always_returns_same _ _ _ (λ a r g called. search rules)) in
    let rise = subst (λ ps. Rise (names_of ps)) (sym c.as_slice.ensures) c.requires in
    let left = without_missed name preferences c.in-Err.field-0 rise nowhere in
    if_listed c.same.result _ _ (subst (λ ps. ps ≡ without_name name ps) c.as_slice.ensures left) c.same.ensures.list
