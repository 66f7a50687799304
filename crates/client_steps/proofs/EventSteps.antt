-- A step counts an event that is done, forgets the counts at a reset that is done, and else leaves them.
use Rattle.std.proofs.Common.{◌≡◌, ℕ, Bool, true, false, List, [], length, Option, Some, None, refl, sym}
use Rattle.std.specs.Prelude.{nat_lt, if◌then◌else◌}
use Rattle.json_tree.specs.declared.tree.Tree.{Tree}
use Rattle.enrol_states.specs.Commands.{after_reset}
use Rattle.event_counts.specs.Kept.{counted_in}
use Rattle.client_state.specs.Sound.{max_size}
use Rattle.client_state.specs.Encoding.{encoding}
use Rattle.client_state.specs.declared.client_state.ClientState.{ClientState}
use Rattle.client_words.specs.declared.answer.Answer.TheVariants.{Okay}
use Rattle.client_words.specs.declared.refusal.Refusal.TheVariants.{EventLimit, StateTooLarge}
use Rattle.client_words.specs.declared.command.Command.{Command}
use Rattle.client_words.specs.declared.command.Command.TheVariants.{Reset, Event, Confirm, SetPreference, ClearPreference}
use Rattle.client_steps.specs.declared.session.Session.{Session}
use Rattle.client_steps.specs.EventSteps.{is_okay, counts_after, EventsFollow}
use Rattle.client_steps.specs.Settings.{Setting}
use Rattle.client_steps.specs.Steps.{Outcome, Accepted, Refused, Step, with_enrolment, whole, resetting, has_no_room_for, confirming, preferring, outcome, done, step, unchanged}
use Rattle.client_steps.proofs.Outcomes.{either_step, plain_either, confirming_either}
use Rattle.client_steps.proofs.Stepping.{whole_either, preferring_either}

module _ (at : Setting) (s : ClientState) (session : Session) where
  -- ---- the counts stay

  abbrev Keeps : Outcome → Type 0
  Keeps (Accepted t next answer) = t.events ≡ s.events
  Keeps (Refused refusal) = Unit {0}

  done-keeps : (asked : Outcome) → Keeps asked → (done s session asked).state.events ≡ s.events
  done-keeps (Accepted t next answer) keeps = either_step (λ to. to.state.events ≡ s.events) (nat_lt max_size (length (encoding t))) _ _ refl keeps
  done-keeps (Refused refusal) keeps = refl

  preferring-keeps : (name : List ℕ) (value : Option Tree) → Keeps (preferring s session name value)
  preferring-keeps name value = preferring_either Keeps s session name value tt (λ free. refl) (λ holder held fits. refl)

  -- ---- they change

  -- what a command that changes them leaves, where it isn't refused
  changes_at : (command : Command) (t : ClientState) → counts_after at.now command false s.events ≡ s.events → t.events ≡ counts_after at.now command true s.events → (large : Bool)
      → let to : Step = if large then unchanged s session (StateTooLarge (length (encoding t))) else record { state = t; session = session; answer = Okay } in
      to.state.events ≡ counts_after at.now command (is_okay to.answer) s.events
  changes_at command t stays is true = sym stays
  changes_at command t stays is false = is

  counted : (name : List ℕ) (count : ℕ) (full : Bool) → let to : Step = done s session (if full then Refused EventLimit else Accepted (record s { events = counted_in name count at.now s.events }) session Okay) in
      to.state.events ≡ counts_after at.now (Event name count) (is_okay to.answer) s.events
  counted name count true = refl
  counted name count false =
      let t : ClientState = record s { events = counted_in name count at.now s.events } in
      changes_at (Event name count) t refl refl (nat_lt max_size (length (encoding t)))

  forgotten : (id : List ℕ) → let to : Step = done s session (whole s session [] (resetting s.enrolment session id)) in to.state.events ≡ counts_after at.now (Reset id) (is_okay to.answer) s.events
  forgotten id =
      let t : ClientState = with_enrolment session s (after_reset s.enrolment id) [] in
      whole_either (λ asked. let to : Step = done s session asked in to.state.events ≡ counts_after at.now (Reset id) (is_okay to.answer) s.events) s session [] (after_reset s.enrolment id) session Okay refl
      (λ fits. changes_at (Reset id) t refl refl (nat_lt max_size (length (encoding t))))

  follows : (command : Command) → (step at s session command).state.events ≡ counts_after at.now command (is_okay (step at s session command).answer) s.events
  unfolding step
  follows (Reset id) = forgotten id
  follows (Event name count) = counted name count (has_no_room_for name s.events)
  follows (SetPreference name value) = done-keeps (preferring s session name (Some value)) (preferring-keeps name (Some value))
  follows (ClearPreference name) = done-keeps (preferring s session name None) (preferring-keeps name None)
  follows (Confirm number) = done-keeps (confirming s session number) (confirming_either at s session Keeps (λ refusal. tt) number (λ known. refl))
  follows command = done-keeps (outcome at s session command) (plain_either at s session Keeps (λ refusal. tt) (λ next answer. refl) (λ e next answer. refl) command tt)

pub events_follow : EventsFollow
events_follow at s session command = follows at s session command
