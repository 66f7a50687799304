-- One more of which the name is held.
use Rattle.std.proofs.Common.{◌≡◌, ◌+◌, ◌++◌, ◌∷◌, [], List, true, not, take, sym, ap, subst, ◌∙◌}
use Rattle.std.specs.Option.{is_some}
use Rattle.std.proofs.lemmas.List.{take_all, take_more}
use Rattle.enrol_states.proofs.Lookups.{is_some-map}
use Rattle.sequences.proofs.Alls.{all_push}
use Rattle.pref_bindings.specs.Changes.{Setting}
use Rattle.pref_bindings.specs.Preferences.{AreHeld, holder_of}
use Rattle.pref_bindings.specs.declared.preference.Preference.{Preference}
use Rattle.pref_bindings.proofs.prefs.Prefs.are_held.Goals as goal

abbrev IsHeldIn : List Preference → Setting → Type 0
IsHeldIn ps v = is_some (holder_of v.0 ps) ≡ true

pub loop-value-preserved : goal.loop-value-preserved
loop-value-preserved c =
    let ps = c.args.self.now in
    let vs = c.args.values.now in
    let i = c.loop-value.value-index in
    let v = c.value-item.result in
    let here : IsHeldIn ps v = ap (λ name. is_some (holder_of name ps)) (sym c.as_str.ensures.text) ∙ ap is_some (sym c.holder.ensures) ∙ is_some-map _ c.holder.result ∙ c.is_none.ensures ∙ ap not c.if-is_none.false in
    let grown : take (i + 1) vs ≡ take i vs ++ v ∷ [] = take_more vs i v c.loop-value-test.true ∙ ap (λ (w : Setting). take i vs ++ w ∷ []) (sym c.value-item.is) in
    record { held = subst (λ ws. AreHeld ws ps) (sym grown) (all_push (IsHeldIn ps) (take i vs) v c.loop-value.invariant.held here) }

pub returns : goal.returns
returns c =
    λ _. subst (λ ws. AreHeld ws c.args.self.now) (take_all c.loop-value.value-index c.args.values.now c.loop-value-test.false) c.loop-value.invariant.held
