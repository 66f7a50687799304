-- What a step makes of the counts of events.
use Rattle.std.specs.Prelude.{◌≡◌, ℕ, Bool, true, false, List, []}
use Rattle.event_counts.specs.Kept.{counted_in}
use Rattle.event_counts.specs.declared.name_counts.NameCounts.{NameCounts}
use Rattle.client_state.specs.declared.client_state.ClientState.{ClientState}
use Rattle.client_words.specs.declared.answer.Answer.{Answer}
use Rattle.client_words.specs.declared.answer.Answer.TheVariants.{Okay}
use Rattle.client_words.specs.declared.command.Command.{Command}
use Rattle.client_words.specs.declared.command.Command.TheVariants.{Reset, Event}
use Rattle.client_steps.specs.declared.session.Session.{Session}
use Rattle.client_steps.specs.Settings.{Setting}
use Rattle.client_steps.specs.Steps.{step}

-- the command is done
abbrev pub is_okay : Answer → Bool
is_okay Okay = true
is_okay answer = false

-- the counts after a command that is done or not: an event that is done is counted, and a reset that is done forgets them
abbrev pub counts_after : ℕ → Command → Bool → List NameCounts → List NameCounts
counts_after now (Event name count) true counts = counted_in name count now counts
counts_after now (Reset id) true counts = []
counts_after now command is_done counts = counts

-- the counts that each step leaves
abbrev pub EventsFollow : Type 0
EventsFollow =
    (at : Setting) (s : ClientState) (session : Session) (command : Command)
    → (step at s session command).state.events ≡ counts_after at.now command (is_okay (step at s session command).answer) s.events
