use Rattle.std.proofs.Common.{rules, Some, sym, ap, ◌∙◌, subst}
use Rattle.std.proofs.lemmas.Fn.{always_returns_same}
use Rattle.enrol_states.specs.Order.{Rise}
use Rattle.enrol_states.proofs.Ordered.{order_by}
use Rattle.pref_bindings.specs.Preferences.{found, names_of}
use Rattle.pref_bindings.proofs.Order.{name_of}
use Rattle.pref_bindings.proofs.Places.{found-at, found_missed}
use Rattle.pref_bindings.proofs.prefs.Prefs.find.Goals as goal

pub returns-in-Ok : goal.returns-in-Ok
returns-in-Ok c =
    let preferences = c.as_slice-preferences.result.now in
    let name = c.args.name.now in
    let rise = subst (λ ps. Rise (names_of ps)) (sym c.as_slice-preferences.ensures.preferences) c.as_slice-preferences.ensures.sound.names in
    let here = c.in-Ok.ensures.position (order_by name_of name) (always_returns_same _ _ _ (λ a r g called. search rules)) in
    ap Some c.index-preferences-place.is ∙ sym (found-at name preferences c.in-Ok.place c.index-preferences-place.result c.in-Ok.ensures.bound rise (here c.index-preferences-place.result)) ∙ ap (λ ps. found name ps) c.as_slice-preferences.ensures.preferences

pub returns-in-Err : goal.returns-in-Err
returns-in-Err c =
    let preferences = c.as_slice-preferences.result.now in
    let name = c.args.name.now in
    let rise = subst (λ ps. Rise (names_of ps)) (sym c.as_slice-preferences.ensures.preferences) c.as_slice-preferences.ensures.sound.names in
    let nowhere = c.in-Err.ensures.position (order_by name_of name) (always_returns_same _ _ _ (λ a r g called. search rules)) in
    sym (found_missed name preferences c.in-Err.field-0 rise nowhere) ∙ ap (λ ps. found name ps) c.as_slice-preferences.ensures.preferences
