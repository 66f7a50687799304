-- What a change of state writes, and where the next record begins then.
use Rattle.std.proofs.Common.{◌≡◌, ◌≢◌, ℕ, ◌+◌, ◌<◌, ◌≤◌, Bool, true, false, List, length, refl, sym, ap, ◌∙◌, subst}
use Rattle.std.specs.Prelude.{if◌then◌else◌}
use Rattle.std.specs.Cmp.Lexicographic.{bytes_decides}
use Rattle.std.proofs.lemmas.Bool.{le-ltb, lt-ltb, false_from_ne_true}
use Rattle.host_model.specs.declared.host.Host.{Ghosts}
use Rattle.pair_store.specs.declared.mark.TheConstants.{MAX_RECORD_END}
use Rattle.row_batches.specs.Batch.{ChangeList, batch_text, applied, whole_of}
use Rattle.row_batches.specs.declared.store_row.StoreRow.{StoreRow}
use Rattle.row_batches.proofs.Walks.{applied_between}
use Rattle.row_store.specs.Ready.{ReadyRows, IsCommitted, IsWritten, commit_cost}
use Rattle.row_store.specs.Ready as rows
use Rattle.row_store.specs.Store.{place}
use Rattle.client_state.specs.declared.client_state.ClientState.{ClientState}
use Rattle.client_state.specs.Sound.{IsSound}
use Rattle.client_state.specs.Encoding.{rows_of, encoding, state_eq}
use Rattle.client_state.proofs.KeyOrder.{rows_rise}
use Rattle.client_state.proofs.OneState.{one_encoding}
use Rattle.client_store.specs.declared.change.Change.{Change}
use Rattle.client_store.specs.OpenStore.{IsChangedTo}
use Rattle.client_store.specs.Places.{row_changes, change_size, passes_mark, makes_checkpoint, payload_for, bytes_for, place_after}
use Rattle.client_store.specs.Changes.{IsReadyChangeOf, next_of}
use Rattle.client_store.specs.Stored.{StoredState, IsStored}

-- a state has its own encoding
pub eq_itself : (s : ClientState) → state_eq s s ≡ true
eq_itself s = (bytes_decides (encoding s) (encoding s)).1 refl

-- sound states that aren't the same have other encodings
pub eq_apart : (s t : ClientState) → IsSound s → IsSound t → s ≢ t → state_eq s t ≡ false
eq_apart s t s_sound t_sound other = false_from_ne_true (state_eq s t) (λ is. other (one_encoding s t s_sound t_sound ((bytes_decides (encoding s) (encoding t)).0 is)))

-- ---- no change

pub place_same : (place : ℕ) (s : ClientState) → place ≡ place_after place s s
unfolding place_after
place_same place s = subst (λ (b : Bool). place ≡ (if b then place else (if passes_mark place s s then length (encoding s) + 14 else place + change_size s s + 5))) (sym (eq_itself s)) refl

pub bytes_same : (place : ℕ) (s : ClientState) → 0 ≡ bytes_for place s s
unfolding bytes_for
bytes_same place s = subst (λ (b : Bool). 0 ≡ (if b then 0 else (if passes_mark place s s then length (encoding s) + 16 else change_size s s + 6))) (sym (eq_itself s)) refl

pub no_checkpoint : (place : ℕ) (s : ClientState) → false ≡ makes_checkpoint place s s
no_checkpoint place s = subst (λ (b : Bool). false ≡ (if b then false else passes_mark place s s)) (sym (eq_itself s)) refl

-- ---- a change

whole_is : (t : ClientState) → batch_text (whole_of (rows_of t)) ≡ encoding t
unfolding encoding
whole_is t = refl

-- the changed rows make the new state's rows of those of the old one
pub changes_give : (s t : ClientState) (batch : ChangeList) → IsSound s → IsSound t → batch ≡ row_changes s t → applied batch (rows_of s) ≡ rows_of t
changes_give s t batch s_sound t_sound same = applied_between (rows_of s) (rows_of t) batch (rows_rise s s_sound.consistent) (rows_rise t t_sound.consistent) same

module _ (stored : StoredState) (t : ClientState) (batch : ChangeList) (payload : List ℕ) (s_sound : IsSound stored.state) (t_sound : IsSound t) (other : stored.state ≢ t) (same : batch ≡ row_changes stored.state t) (gives : applied batch stored.rows.rows ≡ rows_of t) where
  abbrev s : ClientState
  s = stored.state

  abbrev at : ℕ
  at = place stored.rows

  apart : state_eq s t ≡ false
  apart = eq_apart s t s_sound t_sound other

  passes : IsWritten true stored.rows batch payload → passes_mark at s t ≡ true
  passes written = lt-ltb MAX_RECORD_END (at + change_size s t + 6) (subst (λ (b : ChangeList). MAX_RECORD_END < at + length (batch_text b) + 6) same written.1)

  within : IsWritten false stored.rows batch payload → passes_mark at s t ≡ false
  within written = le-ltb MAX_RECORD_END (at + change_size s t + 6) (subst (λ (b : ChangeList). at + length (batch_text b) + 6 ≤ MAX_RECORD_END) same written.1)

  whole_payload : IsWritten true stored.rows batch payload → payload ≡ encoding t
  whole_payload written = written.0 ∙ ap (λ (rs : List StoreRow). batch_text (whole_of rs)) gives ∙ whole_is t

  part_payload : IsWritten false stored.rows batch payload → payload ≡ batch_text (row_changes s t)
  part_payload written = written.0 ∙ ap batch_text same

  whole_length : IsWritten true stored.rows batch payload → length payload ≡ length (encoding t)
  whole_length written = ap length (whole_payload written)

  part_length : IsWritten false stored.rows batch payload → length payload ≡ change_size s t
  part_length written = ap length (part_payload written)

  pub payload_is : (is_whole : Bool) → IsWritten is_whole stored.rows batch payload → payload ≡ payload_for at s t
  payload_is true written = subst (λ (b : Bool). payload ≡ (if b then encoding t else batch_text (row_changes s t))) (sym (passes written)) (whole_payload written)
  payload_is false written = subst (λ (b : Bool). payload ≡ (if b then encoding t else batch_text (row_changes s t))) (sym (within written)) (part_payload written)

  pub checkpoint_is : (is_whole : Bool) → IsWritten is_whole stored.rows batch payload → is_whole ≡ makes_checkpoint at s t
  checkpoint_is true written = subst (λ (b : Bool). true ≡ (if b then false else passes_mark at s t)) (sym apart) (sym (passes written))
  checkpoint_is false written = subst (λ (b : Bool). false ≡ (if b then false else passes_mark at s t)) (sym apart) (sym (within written))

  pub bytes_are : (is_whole : Bool) → IsWritten is_whole stored.rows batch payload → length payload + (if is_whole then 16 else 6) ≡ bytes_for at s t
  unfolding bytes_for
  bytes_are true written =
      subst (λ (b : Bool). length payload + 16 ≡ (if b then 0 else (if passes_mark at s t then length (encoding t) + 16 else change_size s t + 6))) (sym apart)
      (subst (λ (b : Bool). length payload + 16 ≡ (if b then length (encoding t) + 16 else change_size s t + 6)) (sym (passes written)) (ap (λ (n : ℕ). n + 16) (whole_length written)))
  bytes_are false written =
      subst (λ (b : Bool). length payload + 6 ≡ (if b then 0 else (if passes_mark at s t then length (encoding t) + 16 else change_size s t + 6))) (sym apart)
      (subst (λ (b : Bool). length payload + 6 ≡ (if b then length (encoding t) + 16 else change_size s t + 6)) (sym (within written)) (ap (λ (n : ℕ). n + 6) (part_length written)))

  pub place_is : (is_whole : Bool) → IsWritten is_whole stored.rows batch payload → (if is_whole then length payload + 14 else at + length payload + 5) ≡ place_after at s t
  unfolding place_after
  place_is true written =
      subst (λ (b : Bool). length payload + 14 ≡ (if b then at else (if passes_mark at s t then length (encoding t) + 14 else at + change_size s t + 5))) (sym apart)
      (subst (λ (b : Bool). length payload + 14 ≡ (if b then length (encoding t) + 14 else at + change_size s t + 5)) (sym (passes written)) (ap (λ (n : ℕ). n + 14) (whole_length written)))
  place_is false written =
      subst (λ (b : Bool). at + length payload + 5 ≡ (if b then at else (if passes_mark at s t then length (encoding t) + 14 else at + change_size s t + 5))) (sym apart)
      (subst (λ (b : Bool). at + length payload + 5 ≡ (if b then length (encoding t) + 14 else at + change_size s t + 5)) (sym (within written)) (ap (λ (n : ℕ). at + n + 5) (part_length written)))

module _ (stored : StoredState) (change : Change) (is_stored : IsStored stored) (is : IsReadyChangeOf stored change) where
  abbrev next : ClientState
  next = next_of stored.state change

  -- the rows with the batch are those of the new state
  pub change_gives : applied change.ready.batch stored.rows.rows ≡ rows_of next
  change_gives = ap (applied change.ready.batch) is_stored.same ∙ changes_give stored.state next change.ready.batch is_stored.sound is.sound is.batch

  pub change_checkpoint : change.ready.is_whole ≡ makes_checkpoint (place stored.rows) stored.state next
  change_checkpoint = checkpoint_is stored next change.ready.batch change.ready.payload is_stored.sound is.sound is.other is.batch change_gives change.ready.is_whole is.ready.written

  pub change_bytes : commit_cost change.ready ≡ bytes_for (place stored.rows) stored.state next
  change_bytes = bytes_are stored next change.ready.batch change.ready.payload is_stored.sound is.sound is.other is.batch change_gives change.ready.is_whole is.ready.written

  pub change_place : rows.place_after change.ready (place stored.rows) ≡ place_after (place stored.rows) stored.state next
  change_place = place_is stored next change.ready.batch change.ready.payload is_stored.sound is.sound is.other is.batch change_gives change.ready.is_whole is.ready.written

  change_payload : change.ready.payload ≡ payload_for (place stored.rows) stored.state next
  change_payload = payload_is stored next change.ready.batch change.ready.payload is_stored.sound is.sound is.other is.batch change_gives change.ready.is_whole is.ready.written

  -- what is written of it
  pub change_written : {H : Type 0} (h : Ghosts H) (old new : H) → IsCommitted h change.ready.is_whole stored.rows.records change.ready.payload old new → IsChangedTo h stored next old new
  change_written h old new fact =
      subst (λ (b : Bool). IsCommitted h b stored.rows.records (payload_for (place stored.rows) stored.state next) old new) change_checkpoint
      (subst (λ (payload : List ℕ). IsCommitted h change.ready.is_whole stored.rows.records payload old new) change_payload fact)
