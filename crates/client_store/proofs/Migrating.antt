-- The rows of a state are written anew, where they are in the old form.
use Rattle.std.proofs.Common.{◌≡◌, inl, inr, ℕ, ◌+◌, ◌<◌, ◌≤◌, Bool, true, false, List, length, sym, ap, ◌∙◌, subst, arith}
use Rattle.std.specs.Prelude.{if◌then◌else◌}
use Rattle.std.proofs.lemmas.Bool.{le-ltb, lt-ltb}
use Rattle.host_model.specs.declared.host.Host.{Ghosts}
use Rattle.host_model.specs.Hosts.{NowOf, MeetsAll}
use Rattle.gate_journal.specs.OpenSide.{OpenSide}
use Rattle.host_model.proofs.Meeting.{met_weaker}
use Rattle.pair_store.specs.declared.mark.TheConstants.{MAX_RECORD_END}
use Rattle.row_batches.specs.Batch.{ChangeList, batch_text, applied, whole_of}
use Rattle.row_batches.specs.declared.store_row.StoreRow.{StoreRow}
use Rattle.row_store.specs.Moments.{KeepsEitherRows}
use Rattle.row_store.specs.Ready.{ReadyRows, IsReadyFor, IsWritten, commit_cost}
use Rattle.row_store.specs.Ready as rows
use Rattle.row_store.specs.Store.{StoredRows, RowsStand, RowsStandWithGate, place}
use Rattle.client_state.specs.declared.client_state.ClientState.{ClientState}
use Rattle.client_state.specs.Forms.{IsOldForm, old_rows, needs_migration}
use Rattle.client_state.specs.Sound.{IsSound}
use Rattle.client_state.specs.Encoding.{rows_of, encoding}
use Rattle.client_store.specs.declared.found_store.FoundStore.{FoundStore}
use Rattle.client_store.specs.Migrations.{migration_passes_mark, migration_bytes, place_migrated, opening_bytes, place_opened, IsMigrationOf}
use Rattle.client_store.specs.Moments.{IsLeftAs}
use Rattle.client_store.specs.Stored.{IsFound}
use Rattle.client_store.proofs.Holding.{rows_kept, stand_again, gated_again}

-- what is written, of a batch of 9 bytes after which the rows encode the state
module _ (store : StoredRows) (s : ClientState) (batch : ChangeList) (payload : List ℕ) (nine : length (batch_text batch) ≡ 9) (whole : batch_text (whole_of (applied batch store.rows)) ≡ encoding s) where
  passes : IsWritten true store batch payload → migration_passes_mark (place store) ≡ true
  passes written = lt-ltb MAX_RECORD_END (place store + 15) (let past : MAX_RECORD_END < place store + length (batch_text batch) + 6 = written.1 in omega (arith, past, nine))

  within : IsWritten false store batch payload → migration_passes_mark (place store) ≡ false
  within written = le-ltb MAX_RECORD_END (place store + 15) (let below : place store + length (batch_text batch) + 6 ≤ MAX_RECORD_END = written.1 in omega (arith, below, nine))

  bytes_are : (is_whole : Bool) → IsWritten is_whole store batch payload → length payload + (if is_whole then 16 else 6) ≡ migration_bytes (place store) s
  unfolding migration_bytes
  bytes_are true written =
      subst (λ (b : Bool). length payload + 16 ≡ (if b then length (encoding s) + 16 else 15)) (sym (passes written)) (ap (λ (bytes : List ℕ). length bytes + 16) (written.0 ∙ whole))
  bytes_are false written =
      subst (λ (b : Bool). length payload + 6 ≡ (if b then length (encoding s) + 16 else 15)) (sym (within written)) (ap (λ (n : ℕ). n + 6) (ap length written.0 ∙ nine))

  place_is : (is_whole : Bool) → IsWritten is_whole store batch payload → (if is_whole then length payload + 14 else place store + length payload + 5) ≡ place_migrated (place store) s
  unfolding place_migrated
  place_is true written =
      subst (λ (b : Bool). length payload + 14 ≡ (if b then length (encoding s) + 14 else place store + 14)) (sym (passes written)) (ap (λ (bytes : List ℕ). length bytes + 14) (written.0 ∙ whole))
  place_is false written =
      subst (λ (b : Bool). place store + length payload + 5 ≡ (if b then length (encoding s) + 14 else place store + 14)) (sym (within written))
      (let nine_written : length payload ≡ 9 = ap length written.0 ∙ nine in omega (arith, nine_written))

module _ (store : StoredRows) (s : ClientState) (ready : ReadyRows) (is_ready : IsReadyFor store ready) (batch : ChangeList) (is : ready.batch ≡ batch) (nine : length (batch_text batch) ≡ 9) (whole : batch_text (whole_of (applied batch store.rows)) ≡ encoding s) where
  written_is : IsWritten ready.is_whole store batch ready.payload
  written_is = subst (λ (b : ChangeList). IsWritten ready.is_whole store b ready.payload) is is_ready.written

  pub migration_cost : commit_cost ready ≡ migration_bytes (place store) s
  migration_cost = bytes_are store s batch ready.payload nine whole ready.is_whole written_is

  pub migration_place : rows.place_after ready (place store) ≡ place_migrated (place store) s
  migration_place = place_is store s batch ready.payload nine whole ready.is_whole written_is

-- the batch that is made of the state, which was lent as t
pub is_migration : (s t : ClientState) → t ≡ s → (before : List StoreRow) → IsOldForm s before → needs_migration before ≡ true → (stored : StoredRows) → stored.rows ≡ before → (batch : ChangeList) → applied batch (old_rows t) ≡ rows_of t
    → batch_text (whole_of (applied batch (old_rows t))) ≡ encoding t → length (batch_text batch) ≡ 9 → (ready : ReadyRows) → IsReadyFor stored ready → ready.batch ≡ batch → IsMigrationOf s stored ready
is_migration s t lent before old needed stored same batch gives whole nine ready is_ready is =
    let given : stored.rows ≡ old_rows s = same ∙ old.same in
    let whole_here : batch_text (whole_of (applied batch stored.rows)) ≡ encoding s =
    ap (λ (rows : List StoreRow). batch_text (whole_of (applied batch rows))) given ∙ subst (λ (u : ClientState). batch_text (whole_of (applied batch (old_rows u))) ≡ encoding u) lent whole in
    record {
      needed = ap needs_migration same ∙ needed;
      old = subst (IsOldForm s) (sym same) old;
      ready = is_ready;
      gives = ap (λ (b : ChangeList). applied b stored.rows) is ∙ ap (applied batch) given ∙ subst (λ (u : ClientState). applied batch (old_rows u) ≡ rows_of u) lent gives;
      bytes = migration_cost stored s ready is_ready batch is nine whole_here;
      place = migration_place stored s ready is_ready batch is nine whole_here;
    }

-- each image is kept for the state, in the one form or in the other
pub migration_met : {H : Type 0} (h : Ghosts H) (old new : H) (s : ClientState) (before after : List StoreRow) → IsSound s → IsOldForm s before → after ≡ rows_of s → MeetsAll h old new (KeepsEitherRows h old before after)
    → MeetsAll h old new (IsLeftAs (h.said old) s)
migration_met h old new s before after sound is_old is_new run =
    met_weaker h.moment h.might old new _ (IsLeftAs (h.said old) s) run (λ l r u met. (
      elim met.0 [
        | inl kept ↦ record { sound = sound; stored = before; form = inr is_old; rows = kept }
        | inr kept ↦ record { sound = sound; stored = after; form = inl is_new; rows = kept }
      ],
      met.1,
    ))

-- ---- a store that is found, with the same rows at the same place after a batch was made ready

module _ {H : Type 0} (h : Ghosts H) (found : FoundStore) (is : IsFound found) (stored : StoredRows) (same_place : stored.records ≡ found.rows.records) (same_rows : stored.rows ≡ found.rows.rows) (old : H) where
  abbrev migrates : Bool
  migrates = needs_migration found.rows.rows

  abbrev bytes : ℕ
  bytes = opening_bytes migrates (place found.rows) found.state

  pub stands_again : RowsStand h found.rows old → RowsStand h stored old
  stands_again stands = stand_again h found.rows old stored same_place same_rows stands

  pub gate_stays : RowsStandWithGate h found.rows old → RowsStandWithGate h stored old
  gate_stays gated = gated_again h found.rows old stored same_place same_rows gated

  -- nothing is written
  pub left_unwritten : MeetsAll h old old (NowOf h old) → RowsStandWithGate h found.rows old → MeetsAll h old old (IsLeftAs (h.said old) found.state)
  left_unwritten still gated = met_weaker h.moment h.might old old _ (IsLeftAs (h.said old) found.state) still (λ l r u now. (rows_kept h found.rows old found.state is.sound is.form gated l r now.0 now.1, now.2))

  module _ (unneeded : needs_migration stored.rows ≡ false) where
    never_needed : migrates ≡ false
    never_needed = ap needs_migration (sym same_rows) ∙ unneeded

    pub place_stays : place stored ≡ place_opened migrates (place found.rows) found.state
    place_stays = ap (λ (side : OpenSide). side.place) same_place ∙ ap (λ (b : Bool). place_opened b (place found.rows) found.state) (sym never_needed)

    pub no_bytes : 0 ≡ bytes
    no_bytes = ap (λ (b : Bool). opening_bytes b (place found.rows) found.state) (sym never_needed)

  -- the batch is written
  module _ (migration : ReadyRows) (of : IsMigrationOf found.state stored migration) where
    pub was_needed : migrates ≡ true
    was_needed = ap needs_migration (sym same_rows) ∙ of.needed

    pub bytes_written : commit_cost migration ≡ bytes
    bytes_written = of.bytes ∙ ap (λ (side : OpenSide). migration_bytes side.place found.state) same_place ∙ ap (λ (b : Bool). opening_bytes b (place found.rows) found.state) (sym was_needed)

    pub place_moves : rows.place_after migration (place stored) ≡ place_opened migrates (place found.rows) found.state
    place_moves = of.place ∙ ap (λ (side : OpenSide). place_migrated side.place found.state) same_place ∙ ap (λ (b : Bool). place_opened b (place found.rows) found.state) (sym was_needed)

    pub left_written : (new : H) → (RowsStandWithGate h stored old → MeetsAll h old new (KeepsEitherRows h old stored.rows (applied migration.batch stored.rows))) → RowsStandWithGate h found.rows old
        → MeetsAll h old new (IsLeftAs (h.said old) found.state)
    left_written new run gated = migration_met h old new found.state stored.rows (applied migration.batch stored.rows) is.sound of.old of.gives (run (gate_stays gated))
