-- A step lets the preferences follow the enrolments that it changes, and then sets or takes away what the user does.
use Rattle.std.proofs.Common.{◌≡◌, ℕ, Bool, true, false, List, [], length, Option, Some, None, refl, sym, ap, ◌∙◌, subst}
use Rattle.std.specs.Prelude.{nat_lt, if◌then◌else◌}
use Rattle.json_tree.specs.declared.tree.Tree.{Tree}
use Rattle.enrol_states.specs.Commands.{enrolment_ended}
use Rattle.enrol_states.specs.Order.{Rise}
use Rattle.enrol_states.specs.declared.state.State.{State}
use Rattle.pref_bindings.specs.Changes.{set_by_user, user_map}
use Rattle.pref_bindings.specs.Preferences.{holder_of, names_of}
use Rattle.pref_bindings.specs.declared.preference.Preference.{Preference}
use Rattle.pref_bindings.proofs.UserMaps.{sets_own}
use Rattle.client_state.specs.Changes.{with_users_value}
use Rattle.client_state.specs.Following.{changes_from, join_values}
use Rattle.client_state.specs.Sound.{max_size, HaveEnrolledHolders}
use Rattle.client_state.specs.Encoding.{encoding}
use Rattle.client_state.specs.declared.client_state.ClientState.{ClientState}
use Rattle.client_state.proofs.HoldersAfter.{holders_after, holders_set}
use Rattle.client_words.specs.declared.answer.Answer.TheVariants.{Okay}
use Rattle.client_words.specs.declared.refusal.Refusal.TheVariants.{StateTooLarge}
use Rattle.client_words.specs.declared.command.Command.{Command}
use Rattle.client_words.specs.declared.command.Command.TheVariants.{Reset, Event, Confirm, SetPreference, ClearPreference}
use Rattle.client_steps.specs.declared.session.Session.{Session}
use Rattle.client_steps.specs.EventSteps.{is_okay}
use Rattle.client_steps.specs.PreferenceSteps.{set_after, HasHolders, PreferencesFollow}
use Rattle.client_steps.specs.Settings.{Setting}
use Rattle.client_steps.specs.Steps.{Outcome, Accepted, Refused, Step, preferences_with, whole, counting, confirming, resetting, preferring, outcome, done, step, unchanged}
use Rattle.client_steps.proofs.FollowedPreferences.{done_map, ended_free, names_follow, names_of_user, preferences_same}
use Rattle.client_steps.proofs.Outcomes.{either_step, plain_either, enrolled_either, counting_either, confirming_either}
use Rattle.client_steps.proofs.Stepping.{preferring_either, without_holder}

module _ (at : Setting) (s : ClientState) (session : Session) where
  -- the preferences where the enrolment becomes this one
  abbrev followed : State → List Preference
  followed e = preferences_with session s.enrolment e s.preferences

  -- where the enrolment and the preferences stay
  stays : s.preferences ≡ followed s.enrolment
  stays = sym (preferences_same session s.enrolment s.preferences)

  -- an accepted state's preferences have followed
  abbrev Follows : Outcome → Type 0
  Follows (Accepted t next answer) = t.preferences ≡ followed t.enrolment
  Follows (Refused refusal) = Unit {0}

  done-follows : (asked : Outcome) → Follows asked → (done s session asked).state.preferences ≡ followed (done s session asked).state.enrolment
  done-follows (Accepted t next answer) follows = either_step (λ to. to.state.preferences ≡ followed to.state.enrolment) (nat_lt max_size (length (encoding t))) _ _ stays follows
  done-follows (Refused refusal) follows = stays

  -- ---- the user's value

  module _ (command : Command) (name : List ℕ) (value : Option Tree) (sets : (ps : List Preference) → set_after command true ps ≡ set_by_user name value ps) (leaves : (ps : List Preference) → set_after command false ps ≡ ps) where
    -- the preferences that a step leaves
    abbrev IsSet : Step → Type 0
    IsSet to = to.state.preferences ≡ set_after command (is_okay to.answer) (followed to.state.enrolment)

    set_at : (t : ClientState) → t.preferences ≡ followed t.enrolment → (large : Bool)
        → IsSet (if large then unchanged s session (StateTooLarge (length (encoding (with_users_value name value t)))) else record { state = with_users_value name value t; session = session; answer = Okay })
    set_at t follows true = stays ∙ sym (leaves (followed s.enrolment))
    set_at t follows false = ap (set_by_user name value) follows ∙ sym (sets (followed t.enrolment))

    preferring-sets : IsSet (done s session (preferring s session name value))
    preferring-sets =
        preferring_either (λ asked. IsSet (done s session asked)) s session name value (stays ∙ sym (leaves (followed s.enrolment)))
        (λ free. set_at s stays (nat_lt max_size (length (encoding (with_users_value name value s)))))
        (λ holder held fits. set_at (without_holder session s holder) refl (nat_lt max_size (length (encoding (with_users_value name value (without_holder session s holder))))))

    -- and the user's map
    abbrev IsMapped : Step → Type 0
    IsMapped to = user_map to.state.preferences ≡ set_after command (is_okay to.answer) (user_map s.preferences)

    mapped_at : (t : ClientState) → user_map t.preferences ≡ user_map s.preferences → Rise (names_of t.preferences) → holder_of name t.preferences ≡ None → (large : Bool)
        → IsMapped (if large then unchanged s session (StateTooLarge (length (encoding (with_users_value name value t)))) else record { state = with_users_value name value t; session = session; answer = Okay })
    mapped_at t same rise free true = sym (leaves (user_map s.preferences))
    mapped_at t same rise free false = sets_own name value t.preferences rise free ∙ ap (set_by_user name value) same ∙ sym (sets (user_map s.preferences))

    preferring-maps : HasHolders s → IsMapped (done s session (preferring s session name value))
    preferring-maps has =
        preferring_either (λ asked. IsMapped (done s session asked)) s session name value (sym (leaves (user_map s.preferences)))
        (λ free. mapped_at s refl has.names free (nat_lt max_size (length (encoding (with_users_value name value s)))))
        (λ holder held fits.
        let next = enrolment_ended holder s.enrolment in
        mapped_at (without_holder session s holder) (done_map (join_values session.manifest session.bindings next) (changes_from s.enrolment next) s.preferences) (names_follow (join_values session.manifest session.bindings next) (changes_from s.enrolment next) s.preferences has.names)
        (ended_free session s.enrolment s.preferences holder name has.names held (holders_after s.enrolment next (join_values session.manifest session.bindings next) s.preferences has.holders)) (nat_lt max_size (length (encoding (with_users_value name value (without_holder session s holder))))))

  follows : (command : Command) → (step at s session command).state.preferences ≡ set_after command (is_okay (step at s session command).answer) (followed (step at s session command).state.enrolment)
  unfolding step
  follows (SetPreference name value) = preferring-sets (SetPreference name value) name (Some value) (λ ps. refl) (λ ps. refl)
  follows (ClearPreference name) = preferring-sets (ClearPreference name) name None (λ ps. refl) (λ ps. refl)
  follows (Reset id) = let asked = resetting s.enrolment session id in done-follows (whole s session [] asked) (enrolled_either at s session Follows (λ refusal. tt) [] asked (λ e next answer. refl))
  follows (Event name count) = done-follows (counting at.now s session name count) (counting_either at s session Follows (λ refusal. tt) name count (λ room. stays))
  follows (Confirm number) = done-follows (confirming s session number) (confirming_either at s session Follows (λ refusal. tt) number (λ known. stays))
  follows command = done-follows (outcome at s session command) (plain_either at s session Follows (λ refusal. tt) (λ next answer. stays) (λ e next answer. refl) command tt)

  -- a command that isn't the user's
  kept : (command : Command) → ((is_done : Bool) (ps : List Preference) → set_after command is_done ps ≡ ps)
      → user_map (step at s session command).state.preferences ≡ set_after command (is_okay (step at s session command).answer) (user_map s.preferences)
  kept command none =
      let to = step at s session command in
      ap user_map (follows command ∙ none (is_okay to.answer) (followed to.state.enrolment))
      ∙ done_map (join_values session.manifest session.bindings to.state.enrolment) (changes_from s.enrolment to.state.enrolment) s.preferences
      ∙ sym (none (is_okay to.answer) (user_map s.preferences))

  maps : (command : Command) → HasHolders s → user_map (step at s session command).state.preferences ≡ set_after command (is_okay (step at s session command).answer) (user_map s.preferences)
  unfolding step
  maps (SetPreference name value) has = preferring-maps (SetPreference name value) name (Some value) (λ ps. refl) (λ ps. refl) has
  maps (ClearPreference name) has = preferring-maps (ClearPreference name) name None (λ ps. refl) (λ ps. refl) has
  maps command has = kept command (λ is_done ps. refl)

  -- ---- holders

  set_names : (command : Command) (is_done : Bool) (ps : List Preference) → Rise (names_of ps) → Rise (names_of (set_after command is_done ps))
  set_names (SetPreference name value) true ps rise = names_of_user name (Some value) ps rise
  set_names (ClearPreference name) true ps rise = names_of_user name None ps rise
  set_names command is_done ps rise = rise

  set_holders : (e : State) (command : Command) (is_done : Bool) (ps : List Preference) → HaveEnrolledHolders e ps → HaveEnrolledHolders e (set_after command is_done ps)
  set_holders e (SetPreference name value) true ps have = holders_set e name (Some value) ps have
  set_holders e (ClearPreference name) true ps have = holders_set e name None ps have
  set_holders e command is_done ps have = have

  holders : (command : Command) → HasHolders s → HasHolders (step at s session command).state
  holders command has =
      let to : Step = step at s session command in
      let e = to.state.enrolment in
      let values = join_values session.manifest session.bindings e in
      record {
        names = subst (λ (ps : List Preference). Rise (names_of ps)) (sym (follows command)) (set_names command (is_okay to.answer) (followed e) (names_follow values (changes_from s.enrolment e) s.preferences has.names));
        holders = subst (λ (ps : List Preference). HaveEnrolledHolders e ps) (sym (follows command)) (set_holders e command (is_okay to.answer) (followed e) (holders_after s.enrolment e values s.preferences has.holders));
      }

pub preferences_follow : PreferencesFollow
preferences_follow = record {
  preferences = λ at s session command. follows at s session command;
  holders = λ at s session command has. holders at s session command has;
  user_map = λ at s session command has. maps at s session command has;
}
