-- A store whose records encode whole states, one after the other, on the left side, as earlier builds wrote it.
use Rattle.std.specs.Prelude.{ℕ, List, [], ◌∷◌, ◌++◌}
use Rattle.gate_journal.specs.Records.{IsOpen, IsKept, IsShut}
use Rattle.client_state.specs.declared.client_state.ClientState.{ClientState}
use Rattle.client_state.specs.Forms.{IsEncoded}
use Rattle.client_state.specs.Sound.{IsSound}
use Rattle.client_store.specs.Store.{StandsFor, KeptFor}

-- each payload encodes a sound state, or its old form
abbrev pub EncodeStates : List (List ℕ) → Type 0
EncodeStates [] = Unit {0}
EncodeStates (payload ∷ payloads) = ((s : ClientState) × IsSound s × IsEncoded s payload) × EncodeStates payloads

-- it stands for the last of them, and is kept for it where a byte stands at the gate that ends the records
pub record WholeStatesStand : Type 0 where
  pub stand : (payloads : List (List ℕ)) (s : ClientState) (last : List ℕ) (generation : ℕ) (l r : List ℕ) → EncodeStates payloads → IsSound s → IsEncoded s last → IsOpen generation (payloads ++ last ∷ []) l → IsShut r → StandsFor l r s
  pub kept : (payloads : List (List ℕ)) (s : ClientState) (last : List ℕ) (generation : ℕ) (l r : List ℕ) → EncodeStates payloads → IsSound s → IsEncoded s last → IsKept generation (payloads ++ last ∷ []) l → IsShut r → KeptFor l r s
