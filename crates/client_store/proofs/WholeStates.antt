-- Records that encode whole states fold to the rows of the last one.
use Rattle.std.proofs.Common.{◌≡◌, inl, ℕ, ◌<◌, List, [], ◌∷◌, ◌++◌, length, arith}
use Rattle.host_model.specs.declared.side.Side.TheVariants.{Left}
use Rattle.gate_journal.specs.Records.{IsOpen, IsShut}
use Rattle.pair_store.specs.Pair.{Counts}
use Rattle.row_batches.specs.Batch.{whole_of, applied}
use Rattle.row_batches.specs.declared.store_row.StoreRow.{StoreRow}
use Rattle.row_batches.proofs.Walks.{applied_whole}
use Rattle.row_store.specs.Folding.{IsBatchOf, Fold}
use Rattle.client_state.specs.declared.client_state.ClientState.{ClientState}
use Rattle.client_state.specs.Sound.{IsSound}
use Rattle.client_state.proofs.Forms.{Text, text_of_form, form_rises, form_rule}
use Rattle.client_store.specs.WholeStates.{EncodeStates, WholeStatesStand}

module _ (s : ClientState) (sound : IsSound s) (payload : List ℕ) (encoded : Text s payload) where
  -- such a payload is a batch that makes a form of the state of any rows
  is_whole : IsBatchOf payload (whole_of encoded.rows)
  is_whole = record { rules = form_rule s encoded.rows sound encoded.form; bytes = encoded.text }

  makes : (any : List StoreRow) → applied (whole_of encoded.rows) any ≡ encoded.rows
  makes any = applied_whole encoded.rows any (form_rises s encoded.rows sound.consistent encoded.form)

folds : (payloads : List (List ℕ)) (s : ClientState) (last : List ℕ) (before : List StoreRow) → EncodeStates payloads → IsSound s → (encoded : Text s last) → Fold (payloads ++ last ∷ []) before encoded.rows
folds [] s last before are sound encoded = (whole_of encoded.rows, is_whole s sound last encoded, makes s sound last encoded before)
folds (payload ∷ payloads) s last before are sound encoded =
    let first = text_of_form are.0.0 payload are.0.2 in
    (whole_of first.rows, is_whole are.0.0 are.0.1 payload first, folds payloads s last (applied (whole_of first.rows) before) are.1 sound encoded)

some : (payloads : List (List ℕ)) (last : List ℕ) → 0 < length (payloads ++ last ∷ [])
some [] last = omega arith
some (payload ∷ payloads) last = omega arith

counts : (payloads : List (List ℕ)) (last : List ℕ) (generation : ℕ) (l r : List ℕ) → IsOpen generation (payloads ++ last ∷ []) l → IsShut r → Counts (payloads ++ last ∷ []) l r
counts payloads last generation l r side shut = record { generation = generation; side = side; some = some payloads last; rest = inl shut }

pub whole_states_stand : WholeStatesStand
whole_states_stand = record {
  stand = λ payloads s last generation l r are sound is side shut.
      let encoded = text_of_form s last is in
      record { sound = sound; stored = encoded.rows; form = encoded.form; rows = (payloads ++ last ∷ [], (Left, counts payloads last generation l r side shut), folds payloads s last [] are sound encoded) };
  kept = λ payloads s last generation l r are sound is kept shut.
      let encoded = text_of_form s last is in
      record { sound = sound; stored = encoded.rows; form = encoded.form; rows = (payloads ++ last ∷ [], (Left, counts payloads last generation l r kept.side shut, kept.gate), folds payloads s last [] are sound encoded) };
}
