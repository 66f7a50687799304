-- The changes of enrolments over a chain of runs, and those that the outbox holds.
use Rattle.std.specs.Prelude.{◌≡◌, ◌+◌, ℕ, max, List, [], ◌∷◌, ◌++◌, length, Option, None, Some}
use Rattle.change_outbox.specs.Changes.{changes_between}
use Rattle.change_outbox.specs.Contents.{Contents, above, no_changes, numbered}
use Rattle.change_outbox.specs.declared.change.Change.{Change}
use Rattle.client_state.specs.declared.client_state.ClientState.{ClientState}
use Rattle.client_words.specs.declared.command.Command.{Command}
use Rattle.client_words.specs.declared.command.Command.TheVariants as commands
use Rattle.client_store.specs.Store.{KeptFor}
use Rattle.session_run.specs.Chains.{Link, IsChain, EndsKept}
use Rattle.session_run.specs.Histories.{Turn, turned, command_done, history}

-- the changes of enrolments that a line makes
abbrev pub changes_by : Turn → List Change
changes_by turn = changes_between turn.run.state.enrolment.rows (turned turn).state.enrolment.rows

-- those that these lines make, in order
abbrev pub changes_over : List Turn → List Change
changes_over [] = []
changes_over (turn ∷ turns) = changes_by turn ++ changes_over turns

-- the number that a command confirms, 0 where it confirms none
abbrev pub confirmed_by : Command → ℕ
confirmed_by (commands.Confirm number) = number
confirmed_by command = 0

-- where one was answered `ok`
abbrev pub number_confirmed : Option Command → ℕ
number_confirmed None = 0
number_confirmed (Some command) = confirmed_by command

-- the greatest number that these lines confirm, 0 where they confirm none
abbrev pub confirmed_over : List Turn → ℕ
confirmed_over [] = 0
confirmed_over (turn ∷ turns) = max (number_confirmed (command_done turn)) (confirmed_over turns)

-- the outbox after these lines, from a new one: it holds exactly those of their changes, numbered from 1, whose number is above the greatest
-- one that was confirmed, and its next number is one above their count
abbrev pub outbox_over : List Turn → Contents
outbox_over turns =
    record { next = 1 + length (changes_over turns); entries = above (confirmed_over turns) (numbered 1 (changes_over turns)) }

-- After any runs from a store with a new outbox, the outbox of the last pair is that of the lines that counted.
abbrev pub OutboxIsKept : Type 0
OutboxIsKept =
    (l r : List ℕ) (s t : ClientState) (links : List Link) → KeptFor l r s → IsChain l r links → s.outbox ≡ no_changes → EndsKept l r links t
    → t.outbox ≡ outbox_over (history s links)
