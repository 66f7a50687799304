-- The next state of an enrolment is a change of the client's state.
use Rattle.std.proofs.Common.{◌≡◌, refl, subst, sym}
use Rattle.enrol_states.specs.Consistent as states
use Rattle.enrol_states.specs.NextStates.{HasParts}
use Rattle.enrol_states.specs.declared.next_state.NextState.{NextState}
use Rattle.enrol_states.specs.declared.state.State.{State}
use Rattle.state_codec.specs.RecipeLists.{HasSameRecipes}
use Rattle.client_state.specs.Changes.{IsChangeOf, of_next_state}
use Rattle.client_state.specs.declared.client_state.ClientState.{ClientState}
use Rattle.client_state.specs.declared.state_change.StateChange.{StateChange}

-- where it has the recipes of before
pub is_change : (s : ClientState) (next : NextState) (after : State) (change : StateChange) → change ≡ of_next_state next → next.state ≡ after → HasSameRecipes s.enrolment after → HasParts s.enrolment next → states.IsConsistent next.state
    → IsChangeOf s change
is_change s next after change made is same parts consistent = subst (IsChangeOf s) (sym made) (record {
  enrolment = record {
    consistent = consistent;
    recipes = record { recipes = subst (HasSameRecipes s.enrolment) (sym is) same; opted_out_part = parts.opted_out; row_part = parts.rows };
  };
  events = tt;
  outbox = tt;
  preferences = tt;
})
