-- What contracts see of a step that is prepared.
use Rattle.std.specs.Prelude.{◌≡◌, Bool}
use Rattle.client_state.specs.declared.client_state.ClientState.{ClientState}
use Rattle.client_words.specs.declared.answer.Answer.{Answer}
use Rattle.client_store.specs.Changes.{changed, IsChange, is_whole_in}
use Rattle.client_steps.specs.declared.session.Session.{Session}
use Rattle.client_steps.specs.Sessions.{changed_by}
use Rattle.client_steps.specs.Steps.{Step}
use Rattle.client_core.specs.declared.client.Client.{Client}
use Rattle.client_core.specs.declared.prepared.Prepared.{Prepared}

-- the state that the step leaves
abbrev pub next_state : Client → Prepared → ClientState
next_state client prepared = changed client.store.state prepared.change

-- the session that the step leaves
abbrev pub next_session : Client → Prepared → Session
next_session client prepared = changed_by client.session prepared.session

abbrev pub answer_in : Prepared → Answer
answer_in prepared = prepared.answer

-- the client is as it was when the step was prepared on it
abbrev pub IsMadeOn : Client → Prepared → Type 0
IsMadeOn client prepared = IsChange client.store prepared.change

abbrev pub is_checkpoint : Prepared → Bool
is_checkpoint prepared = is_whole_in prepared.change

-- it is this step of the client
pub record Leads (client : Client) (prepared : Prepared) (to : Step) : Type 0 where
  pub state : next_state client prepared ≡ to.state
  pub session : next_session client prepared ≡ to.session
  pub answer : answer_in prepared ≡ to.answer
