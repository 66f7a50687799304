-- What a step makes of preferences.
use Rattle.std.specs.Prelude.{◌≡◌, Bool, true, List, Some, None}
use Rattle.enrol_states.specs.Order.{Rise}
use Rattle.pref_bindings.specs.Changes.{set_by_user, user_map}
use Rattle.pref_bindings.specs.Preferences.{names_of}
use Rattle.pref_bindings.specs.declared.preference.Preference.{Preference}
use Rattle.client_state.specs.Sound.{HaveEnrolledHolders}
use Rattle.client_state.specs.declared.client_state.ClientState.{ClientState}
use Rattle.client_words.specs.declared.command.Command.{Command}
use Rattle.client_words.specs.declared.command.Command.TheVariants.{SetPreference, ClearPreference}
use Rattle.client_steps.specs.declared.session.Session.{Session}
use Rattle.client_steps.specs.EventSteps.{is_okay}
use Rattle.client_steps.specs.Settings.{Setting}
use Rattle.client_steps.specs.Steps.{preferences_with, step}

-- the preferences after a command that is done or not: the user's value is set by a `set-pref` that is done, and taken away by such a `clear-pref`
abbrev pub set_after : Command → Bool → List Preference → List Preference
set_after (SetPreference name value) true ps = set_by_user name (Some value) ps
set_after (ClearPreference name) true ps = set_by_user name None ps
set_after command is_done ps = ps

-- the preferences rise by name, and whoever holds one takes part. Each consistent state has such preferences
pub record HasHolders (s : ClientState) : Type 0 where
  pub names : Rise (names_of s.preferences)
  pub holders : HaveEnrolledHolders s.enrolment s.preferences

-- The preferences that each step leaves: each enrolment that ended has left them, then each that began has joined them, and then the user's value is set or taken away. Whoever holds one takes part again. Of them the user's map changes by the user's value alone.
pub record PreferencesFollow : Type 0 where
  pub preferences : (at : Setting) (s : ClientState) (session : Session) (command : Command)
      → (step at s session command).state.preferences ≡ set_after command (is_okay (step at s session command).answer) (preferences_with session s.enrolment (step at s session command).state.enrolment s.preferences)
  pub holders : (at : Setting) (s : ClientState) (session : Session) (command : Command) → HasHolders s → HasHolders (step at s session command).state
  pub user_map : (at : Setting) (s : ClientState) (session : Session) (command : Command) → HasHolders s
      → user_map (step at s session command).state.preferences ≡ set_after command (is_okay (step at s session command).answer) (user_map s.preferences)
