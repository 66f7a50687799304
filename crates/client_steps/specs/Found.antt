-- What was found where a command named a file.
use Rattle.std.specs.Prelude.{◌≡◌, length, Some, Result, Ok, Err}
use Rattle.json_tree.specs.Json.{Json}
use Rattle.json_tree.specs.Tree.{json_of}
use Rattle.json_tree.specs.declared.tree.Tree.{Tree}
use Rattle.recipe_reader.specs.declared.payload.Payload.{Payload}
use Rattle.enrol_states.specs.declared.state.State.{State}
use Rattle.client_words.specs.declared.answer.Answer.TheVariants.{Fetched}
use Rattle.client_words.specs.declared.refusal.Refusal.{Refusal}
use Rattle.client_steps.specs.declared.session.Session.{Session}
use Rattle.client_steps.specs.Steps.{EnrolmentOutcome, Accepted, Refused}

-- it is the tree of this reading, or its refusal
abbrev pub IsTree : Result Tree Refusal → Result Json Refusal → Type 0
IsTree (Ok tree) read = read ≡ Ok (json_of tree)
IsTree (Err refusal) read = read ≡ Err refusal

-- the enrolment with these recipes pending, and the answer
abbrev pub accepted : State → Session → Payload → EnrolmentOutcome
accepted e session payload = Accepted (record e { pending = Some payload.recipes }) session (Fetched (length payload.recipes) payload.skipped)

-- what is asked for with this payload, or this refusal
abbrev pub fetched_outcome : State → Session → Result Payload Refusal → EnrolmentOutcome
fetched_outcome e session (Ok payload) = accepted e session payload
fetched_outcome e session (Err refusal) = Refused refusal
