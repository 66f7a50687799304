-- The events of a chain of runs, and what a moment sees of them.
use Rattle.std.specs.Prelude.{◌≡◌, ℕ, List, [], ◌∷◌, ◌++◌, Option, None, Some}
use Rattle.json_tree.specs.Json.{get}
use Rattle.event_counts.specs.History.{Event, dated, history_view}
use Rattle.event_counts.specs.View.{view_of}
use Rattle.client_state.specs.declared.client_state.ClientState.{ClientState}
use Rattle.client_words.specs.declared.command.Command.{Command}
use Rattle.client_words.specs.declared.command.Command.TheVariants as commands
use Rattle.client_store.specs.Store.{KeptFor}
use Rattle.session_run.specs.Chains.{Link, IsChain, EndsKept}
use Rattle.session_run.specs.Histories.{Turn, command_done, history}

-- the events after a command at this moment: `event` adds one, and `reset` forgets all
abbrev pub noted_by : ℕ → Command → List Event → List Event
noted_by now (commands.Event name count) es = es ++ record { name = name; count = count; moment = now } ∷ []
noted_by now (commands.Reset id) es = []
noted_by now command es = es

-- where one was answered `ok`
abbrev pub noted : ℕ → Option Command → List Event → List Event
noted now None es = es
noted now (Some command) es = noted_by now command es

-- the events after these lines
abbrev pub events_over : List Turn → List Event → List Event
events_over [] es = es
events_over (turn ∷ turns) es = events_over turns (noted turn.at.now (command_done turn) es)

-- After any runs from a store without events, what a moment sees of a name in the counts of the last pair is what it sees of the events of
-- the lines that counted. The moment of an event is that of its run, or of an earlier event where that is later.
abbrev pub EventsAreKept : Type 0
EventsAreKept =
    (l r : List ℕ) (s t : ClientState) (links : List Link) → KeptFor l r s → IsChain l r links → s.events ≡ [] → EndsKept l r links t
    → (now : ℕ) (name : List ℕ) → get name (view_of now t.events) ≡ history_view now name (dated 0 (events_over (history s links) []))
