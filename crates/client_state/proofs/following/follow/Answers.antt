-- The changes of enrolments are numbered, and both the outbox and the preferences follow them.
use Rattle.std.proofs.Common.{◌≡◌, List, Option, ap, ◌∙◌, subst}
use Rattle.std.specs.Prelude.{option_map}
use Rattle.std.specs.Option.{unwrap_or}
use Rattle.change_outbox.specs.declared.change.Change.{Change}
use Rattle.pref_bindings.specs.declared.next_preferences.NextPreferences.{NextPreferences}
use Rattle.pref_bindings.specs.declared.preference.Preference.{Preference}
use Rattle.client_state.specs.Changes.{preferences_or}
use Rattle.client_state.specs.Following.{changes_done, join_values}
use Rattle.client_state.proofs.Followed.{all_followed}
use Rattle.client_state.proofs.following.follow.Goals as goal

pub returns-clause-followed : goal.returns-clause-followed
returns-clause-followed c =
    let s = c.args.state.now in
    let next = c.in-Some.next in
    let manifest = option_map (λ m. m.now) c.args.manifest in
    let bindings = option_map (λ b. b.now) c.args.bindings in
    let values = join_values manifest bindings next.state in
    let before : List Preference = preferences_or c.args.change.now.preferences s.preferences in
    let done = subst (λ (ps : List Preference). unwrap_or c.in_ok-done.done ps ≡ changes_done values c.as_slice.result.now ps) c.preferences_or.ensures c.in_ok-done.ensures in
    let taken = ap (λ (next : Option NextPreferences). unwrap_or c.in_ok-done.done (preferences_or next s.preferences)) c.take.ensures.value in
    let preferences = c.next_preferences.ensures.preferences ∙ taken ∙ done ∙ ap (λ (cs : List Change). changes_done values cs before) c.as_slice.ensures in
    all_followed s c.args.change.now next c.in-Some.is c.in_ok-changes.changes c.in_ok-changes.ensures manifest bindings c.in_ok-outbox.outbox c.next_preferences.result c.in_ok-outbox.ensures.outbox preferences
