use Rattle.std.proofs.Common.{rules, ◌≡◌, sym, subst}
use Rattle.std.specs.Prelude.{slice_set}
use Rattle.std.specs.List.{insert}
use Rattle.std.proofs.lemmas.Fn.{always_returns_same}
use Rattle.enrol_states.specs.Order.{Rise}
use Rattle.enrol_states.proofs.Answered.{if_listed}
use Rattle.enrol_states.proofs.Ordered.{order_by}
use Rattle.pref_bindings.specs.Preferences.{names_of}
use Rattle.pref_bindings.specs.Changes.{with_preference}
use Rattle.pref_bindings.proofs.Order.{name_of}
use Rattle.pref_bindings.proofs.Places.{with-at, with_missed}
use Rattle.pref_bindings.proofs.setting.with_preference.Goals as goal

pub returns-in-Ok-clause-preferences : goal.returns-in-Ok-clause-preferences
returns-in-Ok-clause-preferences c =
    let preferences = c.as_slice.result.now in
    let preference = c.args.preference in
    let here = c.in-Ok.ensures.position (order_by name_of preference.name) (always_returns_same _ _ _ (λ a r g called. search rules)) in
    let rise = subst (λ ps. Rise (names_of ps)) (sym c.as_slice.ensures) c.requires in
    let placed = with-at preference preferences c.in-Ok.place preference c.in-Ok.ensures.bound rise (here preference) in
    if_listed c.replaced.result _ _ (subst (λ ps. slice_set ps c.in-Ok.place preference ≡ with_preference preference ps) c.as_slice.ensures placed) c.replaced.ensures.list

pub returns-in-Err-clause-preferences : goal.returns-in-Err-clause-preferences
returns-in-Err-clause-preferences c =
    let preferences = c.as_slice.result.now in
    let preference = c.args.preference in
    let nowhere = c.in-Err.ensures.position (order_by name_of preference.name) (always_returns_same _ _ _ (λ a r g called. search rules)) in
    let rise = subst (λ ps. Rise (names_of ps)) (sym c.as_slice.ensures) c.requires in
    let placed = with_missed preference preferences c.in-Err.place rise nowhere in
    if_listed c.inserted.result _ _ (subst (λ ps. insert ps c.in-Err.place preference ≡ with_preference preference ps) c.as_slice.ensures placed) c.inserted.ensures.list
