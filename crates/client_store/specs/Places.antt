-- What a change of state writes, and where the next record begins then.
use Rattle.std.specs.Prelude.{ℕ, Bool, false, nat_lt, ◌+◌, List, length, if◌then◌else◌}
use Rattle.pair_store.specs.declared.mark.TheConstants.{MAX_RECORD_END}
use Rattle.row_batches.specs.Batch.{ChangeList, batch_text}
use Rattle.row_batches.specs.Between.{between}
use Rattle.client_state.specs.declared.client_state.ClientState.{ClientState}
use Rattle.client_state.specs.Encoding.{rows_of, encoding, state_eq}

-- the changed rows from s to t
abbrev pub row_changes : ClientState → ClientState → ChangeList
row_changes s t = between (rows_of s) (rows_of t)

-- how many bytes they take
abbrev pub change_size : ClientState → ClientState → ℕ
change_size s t = length (batch_text (row_changes s t))

-- a record of them at this place would end, with the gate behind it, past the mark: byte 33,554,432
abbrev pub passes_mark : ℕ → ClientState → ClientState → Bool
passes_mark place s t = nat_lt MAX_RECORD_END (place + change_size s t + 6)

-- then the whole of t is written, on the other side
abbrev pub makes_checkpoint : ℕ → ClientState → ClientState → Bool
makes_checkpoint place s t = if state_eq s t then false else passes_mark place s t

-- the payload of what a change from s to t writes at this place
abbrev pub payload_for : ℕ → ClientState → ClientState → List ℕ
payload_for place s t = if passes_mark place s t then encoding t else batch_text (row_changes s t)

-- how many bytes a change from s to t writes at this place: none where there is none
unfoldable pub bytes_for : ℕ → ClientState → ClientState → ℕ
bytes_for place s t = if state_eq s t then 0 else (if passes_mark place s t then length (encoding t) + 16 else change_size s t + 6)

-- where the next record begins then
unfoldable pub place_after : ℕ → ClientState → ClientState → ℕ
place_after place s t = if state_eq s t then place else (if passes_mark place s t then length (encoding t) + 14 else place + change_size s t + 5)

-- how many bytes the making of a store with this state writes
abbrev pub making_bytes : ClientState → ℕ
making_bytes s = length (encoding s) + 17

-- where the next record begins then
abbrev pub place_made : ClientState → ℕ
place_made s = length (encoding s) + 14
