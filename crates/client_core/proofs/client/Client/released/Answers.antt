-- Where a slug holds the preference, nobody does after the end of its enrolment.
use Rattle.std.proofs.Common.{◌≡◌, ℕ, List, Some, refl, sym, ap, ◌∙◌, subst}
use Rattle.enrol_states.specs.Commands.{enrolment_ended}
use Rattle.pref_bindings.specs.Preferences.{holder_of}
use Rattle.pref_bindings.specs.declared.preference.Preference.{Preference}
use Rattle.client_state.specs.Changes.{IsChangeOf, state_after}
use Rattle.client_state.specs.Following.{followed}
use Rattle.client_state.proofs.NextStates.{is_change}
use Rattle.client_core.specs.declared.client.Client.{Client}
use Rattle.client_core.proofs.Preferring.{free_after}
use Rattle.client_core.proofs.client.Client.released.Goals as goal

pub followed-requires-clause-change : goal.followed-requires-clause-change
followed-requires-clause-change c =
    let s = c.args.self.now.store.state in
    subst (λ (client : Client). IsChangeOf client.store.state c.of_next_state-change.result) (sym c.ended.ensures.same)
    (is_change s c.in_ok-ended.ended (enrolment_ended c.in-Some.holder.now s.enrolment) c.of_next_state-change.result c.of_next_state-change.ensures
    (c.in_ok-ended.ensures.state ∙ ap (λ (slug : List ℕ). enrolment_ended slug s.enrolment) c.in_ok-slug.ensures.cases) (record { live = refl; pending = refl }) c.in_ok-ended.ensures.parts c.in_ok-ended.ensures.consistent)

pub returns-clause-free : goal.returns-clause-free
returns-clause-free c =
    let client = c.args.self.now in
    let s = client.store.state in
    let holder = c.in-Some.holder.now in
    let held : holder_of c.args.name.now s.preferences ≡ Some holder =
    subst (λ (n : List ℕ). holder_of n s.preferences ≡ Some holder) c.as_str.ensures.text
    (subst (λ (ps : List Preference). holder_of c.as_str.result.now ps ≡ Some holder) c.prefs.ensures.preferences (sym c.in-Some.ensures))
    in
    free_after s c.prefs.ensures.consistent client.session c.args.name.now holder held c.in_ok-ended.ended.state
    (c.in_ok-ended.ensures.state ∙ ap (λ (slug : List ℕ). enrolment_ended slug s.enrolment) c.in_ok-slug.ensures.cases) _ c.of_next_state-change.result c.of_next_state-change.ensures (state_after c.followed.new.change s)
    (subst (λ (it : Client). state_after c.followed.new.change it.store.state ≡ followed it.session.manifest it.session.bindings c.of_next_state-change.result it.store.state) c.ended.ensures.same c.in_ok-followed.ensures.followed)
