-- The states of a client that a store may hold.
use Rattle.std.specs.Prelude.{◌≤◌, ℕ, List, length, Option, Some, None, IsTrue, is_some, ⊤}
use Rattle.std.specs.List.{AllByRecursion}
use Rattle.enrol_states.specs.Consistent as states
use Rattle.enrol_states.specs.declared.state.State.{State}
use Rattle.event_counts.specs.Sound as counts
use Rattle.change_outbox.specs.Changes.{branch_of}
use Rattle.change_outbox.specs.Contents as contents
use Rattle.pref_bindings.specs.Preferences as preference_lists
use Rattle.pref_bindings.specs.declared.preference.Hold.{Hold}
use Rattle.pref_bindings.specs.declared.preference.Preference.{Preference}
use Rattle.client_state.specs.declared.client_state.ClientState.{ClientState}
use Rattle.client_state.specs.Encoding.{encoding}
pub use Rattle.state_codec.specs.Sound.{max_size, AreRecords, HaveRecords}

-- ---- who holds preferences

-- the client takes part in the slug's recipe
abbrev pub IsEnrolled : State → List ℕ → Type 0
IsEnrolled e slug = IsTrue (is_some (branch_of slug e.rows))

-- whoever holds it, the client takes part in the holder's recipe
abbrev pub HasEnrolledHolder : State → Option Hold → Type 0
HasEnrolledHolder e None = ⊤
HasEnrolledHolder e (Some h) = IsEnrolled e h.holder

abbrev pub HaveEnrolledHolders : State → List Preference → Type 0
HaveEnrolledHolders e ps = AllByRecursion (λ p. HasEnrolledHolder e p.hold) ps

-- ---- the states

-- a state that a client can have, but for the length of its encoding
pub record IsConsistent (s : ClientState) : Type 0 where
  pub enrolment : states.IsConsistent s.enrolment
  pub events : counts.IsSound s.events
  pub outbox : contents.IsSound s.outbox
  pub preferences : preference_lists.IsSound s.preferences
  pub holders : HaveEnrolledHolders s.enrolment s.preferences

pub record IsSound (s : ClientState) : Type 0 where
  pub consistent : IsConsistent s
  pub records : HaveRecords s.enrolment
  pub size : length (encoding s) ≤ max_size
