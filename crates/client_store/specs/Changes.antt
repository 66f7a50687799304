-- What contracts see of a change that is ready to be committed.
use Rattle.std.specs.Prelude.{◌≡◌, ◌≢◌, Bool, false, Option, None, Some}
use Rattle.row_store.specs.Ready.{IsReadyFor}
use Rattle.client_state.specs.Changes.{state_after}
use Rattle.client_state.specs.Sizes.{IsSizeOf}
use Rattle.client_state.specs.Sound.{IsSound}
use Rattle.client_state.specs.declared.client_state.ClientState.{ClientState}
use Rattle.client_store.specs.declared.change.Change.{Change}
use Rattle.client_store.specs.Places.{row_changes}
use Rattle.client_store.specs.Stored.{StoredState}

-- the state with the parts of a change
abbrev pub next_of : ClientState → Change → ClientState
next_of s change = state_after change.parts s

-- the state after a change, or that of before
abbrev pub changed : ClientState → Option Change → ClientState
changed s None = s
changed s (Some change) = next_of s change

-- a change of what is stored to this state: it is another one, which is sound and has these sizes, by exactly the changed rows
pub record IsChangeTo (stored : StoredState) (next : ClientState) (change : Change) : Type 0 where
  pub other : stored.state ≢ next
  pub sound : IsSound next
  pub sizes : IsSizeOf next change.sizes.value
  pub ready : IsReadyFor stored.rows change.ready
  pub batch : change.ready.batch ≡ row_changes stored.state next

-- a change of what is stored
abbrev pub IsReadyChangeOf : StoredState → Change → Type 0
IsReadyChangeOf stored change = IsChangeTo stored (next_of stored.state change) change

abbrev pub IsChange : StoredState → Option Change → Type 0
IsChange stored None = Unit {0}
IsChange stored (Some change) = IsReadyChangeOf stored change

-- whether the whole of the new state is written in place of the changed rows
abbrev pub is_whole_in : Option Change → Bool
is_whole_in None = false
is_whole_in (Some change) = change.ready.is_whole
