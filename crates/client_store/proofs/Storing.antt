-- The rows of a state are those of its store, before and after a change.
use Rattle.std.proofs.Common.{◌≡◌, Bool, true, false, List, [], ◌∷◌, length, arith, refl, sym, ap, ◌∙◌, subst, Result, Ok, Err, IfOk}
use Rattle.std.specs.Prelude.{◌==◌, if◌then◌else◌}
use Rattle.std.specs.Cmp.{unsigned_Decides}
use Rattle.host_model.specs.declared.host.Host.{Ghosts}
use Rattle.host_model.specs.Hosts.{MeetsAll}
use Rattle.pair_store.specs.declared.faults.PairFault.{PairFault}
use Rattle.row_batches.specs.Batch.{ChangeList, applied}
use Rattle.row_batches.specs.Rows.{after_changes}
use Rattle.row_batches.specs.declared.change.RowChange.{RowChange}
use Rattle.row_batches.specs.declared.store_row.StoreRow.{StoreRow}
use Rattle.row_batches.proofs.Walks.{empty_between}
use Rattle.row_store.specs.Moments.{KeepsEitherRows}
use Rattle.row_store.specs.Store.{StoredRows, RowsStandWithGate}
use Rattle.client_state.specs.declared.client_state.ClientState.{ClientState}
use Rattle.client_state.specs.Sizes.{IsSizeOf}
use Rattle.client_state.specs.Sound.{IsSound}
use Rattle.client_state.specs.Encoding.{rows_of}
use Rattle.client_state.proofs.KeyOrder.{rows_rise}
use Rattle.client_store.specs.declared.change.Change.{Change}
use Rattle.client_store.specs.declared.found_store.FoundStore.{FoundStore}
use Rattle.client_store.specs.Places.{row_changes}
use Rattle.client_store.specs.Changes.{IsReadyChangeOf, next_of}
use Rattle.client_store.specs.Stored.{StoredState, IsStored}
use Rattle.client_store.proofs.Placing.{change_gives}
use Rattle.client_store.proofs.Uniqueness.{one_of_rows}

-- what is so of the rows is so of what is found in them
pub found_in : (P : StoredRows → Type 0) (rows : StoredRows) (result : Result FoundStore PairFault) → IfOk result (λ found. found.rows ≡ rows) → P rows → IfOk result (λ found. P found.rows)
found_in P rows (Ok found) same has = subst P (sym same) has
found_in P rows (Err fault) same has = tt

no_items : (changes : List RowChange) → length changes ≡ 0 → changes ≡ []
no_items [] is = refl
no_items (c ∷ cs) is = absurd (omega (arith, is))

-- a list without items, as a test has it
pub empty_is : (changes shown : List RowChange) → shown ≡ changes → (length shown == 0) ≡ true → changes ≡ []
empty_is changes shown same is = no_items changes (ap (λ (cs : List RowChange). length cs) (sym same) ∙ (unsigned_Decides (length shown) 0).0 is)

pub not_empty : (changes shown : List RowChange) → shown ≡ changes → (length shown == 0) ≡ false → changes ≡ [] → ⊥
not_empty changes shown same is none =
    let has : (length shown == 0) ≡ true = (unsigned_Decides (length shown) 0).1 (ap (λ (cs : List RowChange). length cs) (same ∙ none)) in
    absurd cc

-- a batch without changes leaves the rows
none_applied : (batch : ChangeList) (rows : List StoreRow) → batch.clear ≡ false → batch.changes ≡ [] → applied batch rows ≡ rows
none_applied batch rows keeps none =
    ap (λ (cs : List RowChange). after_changes cs (if batch.clear then [] else rows)) none ∙ ap (λ (clear : Bool). if clear then [] else rows) keeps

module _ (s t : ClientState) (s_sound : IsSound s) (t_sound : IsSound t) (batch : ChangeList) (same : batch ≡ row_changes s t) where
  -- where nothing changes, the states are one
  pub same_state : applied batch (rows_of s) ≡ rows_of t → batch.changes ≡ [] → s ≡ t
  same_state gives none = one_of_rows s t s_sound t_sound (sym (none_applied batch (rows_of s) (ap (λ (b : ChangeList). b.clear) same) none) ∙ gives)

  -- and the other way round
  pub no_changes : s ≡ t → batch.changes ≡ []
  no_changes is = ap (λ (b : ChangeList). b.changes) same ∙ (empty_between (rows_of s) (rows_of t) (rows_rise s s_sound.consistent) (rows_rise t t_sound.consistent)).1 (ap rows_of is)

-- ---- a commit, where the store was opened as `inside`

module _ (inside now : StoredState) (view : inside ≡ now) (kept : IsStored inside) (change : Change) (is : IsReadyChangeOf now change) where
  abbrev next : ClientState
  next = next_of now.state change

  -- the state of the fields with the parts of the change
  pub next_same : next_of inside.state change ≡ next
  next_same = ap (λ (x : StoredState). next_of x.state change) view

  rows_after : applied change.ready.batch inside.rows.rows ≡ rows_of next
  rows_after = ap (λ (x : StoredState). applied change.ready.batch x.rows.rows) view ∙ change_gives now change (subst IsStored view kept) is

  pub sound_after : IsSound (next_of inside.state change)
  sound_after = subst IsSound (sym next_same) is.sound

  pub sizes_after : IsSizeOf (next_of inside.state change) change.sizes.value
  sizes_after = subst (λ (s : ClientState). IsSizeOf s change.sizes.value) (sym next_same) is.sizes

  pub stored_after : (new : StoredRows) (t : ClientState) → new.rows ≡ applied change.ready.batch inside.rows.rows → t ≡ next_of inside.state change → IsStored (record { rows = new; state = t })
  stored_after new t made taken = record { sound = subst IsSound (sym taken) sound_after; same = made ∙ rows_after ∙ sym (ap rows_of (taken ∙ next_same)) }

  module _ {H : Type 0} (h : Ghosts H) (old new : H) where
    pub met_as_states : (RowsStandWithGate h inside.rows old → MeetsAll h old new (KeepsEitherRows h old inside.rows.rows (applied change.ready.batch inside.rows.rows)))
        → RowsStandWithGate h now.rows old → MeetsAll h old new (KeepsEitherRows h old (rows_of now.state) (rows_of next))
    met_as_states run gated =
        let met = run (subst (λ (x : StoredState). RowsStandWithGate h x.rows old) (sym view) gated) in
        let before : inside.rows.rows ≡ rows_of now.state = kept.same ∙ ap (λ (x : StoredState). rows_of x.state) view in
        subst (λ (rows : List StoreRow). MeetsAll h old new (KeepsEitherRows h old rows (rows_of next))) before
        (subst (λ (rows : List StoreRow). MeetsAll h old new (KeepsEitherRows h old inside.rows.rows rows)) rows_after met)
