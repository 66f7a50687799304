-- What a command asks for, as it is found.
use Rattle.std.specs.Prelude.{◌≡◌, ◌⊎◌, ℕ, None, if◌then◌else◌}
use Rattle.client_state.specs.declared.client_state.ClientState.{ClientState}
use Rattle.client_state.specs.Changes.{IsChangeOf, IsWholeChangeOf, state_after}
use Rattle.client_state.specs.Following.{followed, spends}
use Rattle.client_state.specs.declared.state_change.StateChange.{StateChange}
use Rattle.client_words.specs.declared.answer.Answer.{Answer}
use Rattle.client_words.specs.declared.answer.Answer.TheVariants as answers
use Rattle.client_words.specs.declared.refusal.Refusal.TheVariants.{ChangesSpent, StateTooLarge}
use Rattle.client_steps.specs.declared.asked.Asked.{Asked}
use Rattle.client_steps.specs.declared.asked.Asked.TheVariants as asked
use Rattle.client_steps.specs.declared.session.Session.{Session}
use Rattle.client_steps.specs.Sessions.{changed_by}
use Rattle.client_steps.specs.Steps.{Outcome, Accepted, Refused}

-- a change with what follows it, unless the outbox has no numbers for the changes of enrolments
abbrev pub changed_outcome : ClientState → Session → StateChange → Answer → Outcome
changed_outcome s session change answer = if spends change s then Refused ChangesSpent else Accepted (followed session.manifest session.bindings change s) session answer

abbrev pub asked_outcome : ClientState → Session → Asked → Outcome
asked_outcome s session (asked.NewState change answer) = changed_outcome s session change answer
asked_outcome s session (asked.Followed change answer) = Accepted (state_after change s) session answer
asked_outcome s session (asked.SameState change answer) = Accepted s (changed_by session change) answer
asked_outcome s session (asked.Refused refusal) = Refused refusal

abbrev pub answer_for : Asked → Answer
answer_for (asked.NewState change answer) = answer
answer_for (asked.Followed change answer) = answer
answer_for (asked.SameState change answer) = answer
answer_for (asked.Refused refusal) = answers.Refused refusal

-- what is to change may be changed in this state. Preferences change by what follows alone
abbrev pub FollowsFrom : ClientState → Asked → Type 0
FollowsFrom s (asked.NewState change answer) = IsChangeOf s change × (change.preferences ≡ None)
FollowsFrom s (asked.Followed change answer) = IsWholeChangeOf s change
FollowsFrom s asked = Unit {0}

-- the answer, or that numbers are spent, or that the new state is too large
abbrev pub IsAnswerOrRefused : Answer → Answer → Type 0
IsAnswerOrRefused asked given = (given ≡ asked) ⊎ ((given ≡ answers.Refused ChangesSpent) ⊎ ((size : ℕ) × (given ≡ answers.Refused (StateTooLarge size))))
