-- Payloads make one map at most, and one payload more makes of it what its batch does.
use Rattle.std.proofs.Common.{◌≡◌, ℕ, List, [], ◌∷◌, ◌++◌, Bool, true, false, IsTrue, Ok, Err, Some, inl, inr, ◌+◌, ◌≤◌, length, drop, slice_get, suc, refl, sym, ap, ◌∙◌, subst, arith}
use Rattle.std.proofs.Math.Seq.{drop-cons}
use Rattle.std.proofs.lemmas.Option.{get_or_from_slice_get, slice_get_within}
use Rattle.row_batches.specs.Batch.{ChangeList, IsBatch, batch_text, applied, whole_of}
use Rattle.row_batches.specs.Batches.{HaveRoom}
use Rattle.row_batches.specs.Rows.{AreRows}
use Rattle.row_batches.specs.declared.store_row.StoreRow.{StoreRow}
use Rattle.row_batches.proofs.OneEncoding.{one_encoding}
use Rattle.row_batches.proofs.Walks.{whole_rule, applied_whole}
use Rattle.row_batches.proofs.Found.{rise_applied, room_applied}
use Rattle.row_batches.specs.RowRoom.{AreSoundRows}
use Rattle.row_store.specs.Folding.{IsBatchOf, Fold}
use Rattle.row_store.specs.Moments.{KeepsEitherRows}
use Rattle.row_store.specs.Ready.{IsWritten, payloads_after}
use Rattle.row_store.specs.Rows.{HasRows, HasOneMap}
use Rattle.row_store.specs.Store.{StoredRows, KeepsRows, place}
use Rattle.std.specs.List.Sorted.{IsStrictlySortedBy}
use Rattle.std.specs.Prelude.{◌⊎◌, Result, IsErrOf}
use Rattle.gate_journal.specs.OpenSide.{OpenSide}
use Rattle.host_model.specs.declared.host.Host.{Ghosts}
use Rattle.host_model.specs.declared.side.Side.{Side}
use Rattle.host_model.specs.declared.side.Side.TheVariants.{Left, Right}
use Rattle.host_model.specs.Hosts.{IsDurable, MeetsAll}
use Rattle.host_model.specs.Sides.{other}
use Rattle.host_model.proofs.Meeting.{met_weaker}
use Rattle.pair_store.specs.declared.faults.PairFault.{PairFault}
use Rattle.pair_store.specs.declared.faults.PairFault.TheVariants.{NoStore, BadStore, DiskFault, OutOfMemory}
use Rattle.pair_store.specs.declared.mark.TheConstants.{MAX_RECORD_END, MAX_WHOLE}
use Rattle.pair_store.specs.Moments.{KeepsEither, OpensInPhases}
use Rattle.pair_store.specs.Pair.{HasList}
use Rattle.pair_store.specs.Store.{HasFailed, PairStandsWithGate}
use Rattle.pair_store.proofs.Standing.{each_has_kept_list}
use Rattle.pair_store.proofs.Unique.{one_list}

same_batch : (payload : List ℕ) (b c : ChangeList) → IsBatchOf payload b → IsBatchOf payload c → b ≡ c
same_batch payload b c b_is c_is = one_encoding b c b_is.rules c_is.rules (sym b_is.bytes ∙ c_is.bytes)

pub one_fold : (payloads : List (List ℕ)) (before after other : List StoreRow) → Fold payloads before after → Fold payloads before other → after ≡ other
one_fold [] before after other first second = sym first ∙ second
one_fold (payload ∷ payloads) before after other first second =
    let same = same_batch payload second.0 first.0 second.1 first.1 in
    one_fold payloads (applied first.0 before) after other first.2 (subst (λ (b : ChangeList). Fold payloads (applied b before) other) same second.2)

pub fold_more : (payloads : List (List ℕ)) (before after : List StoreRow) (payload : List ℕ) (batch : ChangeList) → Fold payloads before after → IsBatchOf payload batch → Fold (payloads ++ payload ∷ []) before (applied batch after)
fold_more [] before after payload batch made is = (batch, is, ap (applied batch) made)
fold_more (first ∷ payloads) before after payload batch made is = (made.0, made.1, fold_more payloads (applied made.0 before) after payload batch made.2 is)

-- the whole of rows makes them
pub fold_whole : (payload : List ℕ) (rows : List StoreRow) → AreRows rows → HaveRoom rows → payload ≡ batch_text (whole_of rows) → Fold (payload ∷ []) [] rows
fold_whole payload rows rise room is = (whole_of rows, record { rules = whole_rule rows rise room; bytes = is }, applied_whole rows [] rise)

-- rows that batches make from sound ones are sound
pub fold_sound : (payloads : List (List ℕ)) (before after : List StoreRow) → AreSoundRows before → Fold payloads before after → AreSoundRows after
fold_sound [] before after sound made = subst AreSoundRows made sound
fold_sound (payload ∷ payloads) before after sound made =
    fold_sound payloads (applied made.0 before) after (record { rise = rise_applied made.0 before sound.rise; fields = room_applied made.0 before made.1.rules sound.fields }) made.2

pub no_rows : AreSoundRows []
unfolding IsStrictlySortedBy
no_rows = record { rise = tt; fields = tt }

-- rows that batches make from none are sound
pub made_sound : (payloads : List (List ℕ)) (rows given : List StoreRow) → Fold payloads [] rows → given ≡ rows → AreSoundRows given
made_sound payloads rows given made is = subst AreSoundRows (sym is) (fold_sound payloads [] rows no_rows made)

-- the payloads after a commit make the rows with the batch
pub fold_after : (is_whole : Bool) (store : StoredRows) (payloads : List (List ℕ)) (batch : ChangeList) (payload : List ℕ) → Fold payloads [] store.rows → IsBatch batch → IsWritten is_whole store batch payload
    → Fold (payloads_after is_whole payloads payload) [] (applied batch store.rows)
fold_after true store payloads batch payload made rules written =
    let sound = fold_sound payloads [] store.rows no_rows made in
    fold_whole payload (applied batch store.rows) (rise_applied batch store.rows sound.rise) (room_applied batch store.rows rules sound.fields) written.0
fold_after false store payloads batch payload made rules written = fold_more payloads [] store.rows payload batch made (record { rules = rules; bytes = written.0 })

-- what is written fits
pub whole_fits : (is_whole : Bool) (store : StoredRows) (batch : ChangeList) (payload : List ℕ) → IsWritten is_whole store batch payload → length (batch_text (whole_of (applied batch store.rows))) ≤ MAX_WHOLE
    → IsTrue is_whole → length payload ≤ MAX_WHOLE
whole_fits true store batch payload written fits is = subst (λ (p : List ℕ). length p ≤ MAX_WHOLE) (sym written.0) fits
whole_fits false store batch payload written fits is = absurd cc

pub record_fits : (is_whole : Bool) (store : StoredRows) (batch : ChangeList) (payload : List ℕ) → IsWritten is_whole store batch payload → is_whole ≡ false → place store + length payload + 6 ≤ MAX_RECORD_END
record_fits true store batch payload written is = absurd cc
record_fits false store batch payload written is = subst (λ (p : List ℕ). place store + length p + 6 ≤ MAX_RECORD_END) (sym written.0) written.1

-- the pair's moments, seen as rows
pub either_rows : {H : Type 0} (h : Ghosts H) (start new : H) (payloads after : List (List ℕ)) (before_rows after_rows : List StoreRow) → Fold payloads [] before_rows → Fold after [] after_rows
    → MeetsAll h start new (KeepsEither h start payloads after) → MeetsAll h start new (KeepsEitherRows h start before_rows after_rows)
either_rows h start new payloads after before_rows after_rows made made_after run =
    met_weaker h.moment h.might start new _ _ run (λ l r u met. (
      elim met.0 [
        | inl kept ↦ inl (payloads, kept, made)
        | inr kept ↦ inr (after, kept, made_after)
      ],
      met.1,
    ))

-- an opening whose payloads have rows fails by the disk or memory alone
pub failed : {T : Type 0} (fault : PairFault) → (fault ≡ BadStore → ⊥) → (fault ≡ NoStore → ⊥) → HasFailed {T = T} (Err fault)
failed NoStore bad none = absurd (none refl)
failed BadStore bad none = absurd (bad refl)
failed DiskFault bad none = inl refl
failed OutOfMemory bad none = inr refl

-- the list of a pair of images
pub fold_same : (l r : List ℕ) (payloads : List (List ℕ)) (rows : List StoreRow) → HasList l r payloads → HasRows l r rows → Fold payloads [] rows
fold_same l r payloads rows list has = subst (λ (ps : List (List ℕ)). Fold ps [] rows) (one_list l r has.0 payloads has.1 list) has.2

-- a pair has the rows of one map
pub one_map : HasOneMap
one_map l r rows others first second = one_fold first.0 [] rows others first.2 (fold_same l r first.0 others first.1 second)

pub kept_rows : {H : Type 0} (h : Ghosts H) (host : H) (records : OpenSide) (payloads : List (List ℕ)) (rows : List StoreRow) → PairStandsWithGate h records host payloads → Fold payloads [] rows → KeepsRows h host rows
kept_rows h host records payloads rows gated made =
    let both = durable records.side gated.stands.side.only gated.stands.only in
    record {
      each = λ l r left right. (payloads, each_has_kept_list h records host payloads l r left right gated, made);
      left = both.0;
      right = both.1;
    }
  where
    durable : (side : Side) → IsDurable h host side → IsDurable h host (other side) → IsDurable h host Left × IsDurable h host Right
    durable Left this that = (this, that)
    durable Right this that = (that, this)

pub not_ok : {T : Type 0} (value : T) → IsErrOf {T = T} {E = PairFault} (Ok value) NoStore ⊎ HasFailed {T = T} (Ok value) → ⊥
not_ok value (inl is) = cc
not_ok value (inr (inl is)) = cc
not_ok value (inr (inr is)) = cc

-- the fault of one answer is that of another
pub fault_is : {T : Type 0} (fault other : PairFault) → IsErrOf {T = T} {E = PairFault} (Err fault) other → fault ≡ other
fault_is fault other is = cc

pub failed_too : {T U : Type 0} (fault : PairFault) → (false ≡ true) ⊎ HasFailed {T = T} (Err fault) → (false ≡ true) ⊎ HasFailed {T = U} (Err fault)
failed_too fault (inl is) = inl is
failed_too fault (inr (inl is)) = inr (inl (ap Err (fault_is fault DiskFault is)))
failed_too fault (inr (inr is)) = inr (inr (ap Err (fault_is fault OutOfMemory is)))

-- an opening of a pair has the same two phases whatever is answered then
pub phases_on : {H T U : Type 0} (h : Ghosts H) (start new : H) (result : Result T PairFault) (answer : Result U PairFault) → (IsErrOf result DiskFault → IsErrOf answer DiskFault)
    → OpensInPhases h start new result → OpensInPhases h start new answer
phases_on h start new result answer failed (inl first) = inl (failed first.0, first.1)
phases_on h start new result answer failed (inr both) = inr both

-- one payload more is taken
pub fold_on : (payload : List ℕ) (payloads : List (List ℕ)) (before after : List StoreRow) (batch : ChangeList) → IsBatchOf payload batch → after ≡ applied batch before → (rows : List StoreRow)
    → Fold payloads after rows → Fold (payload ∷ payloads) before rows
fold_on payload payloads before after batch is taken rows made = (batch, is, subst (λ (rs : List StoreRow). Fold payloads rs rows) taken made)

pub fold_back : (payload : List ℕ) (payloads : List (List ℕ)) (before after : List StoreRow) (batch : ChangeList) → IsBatchOf payload batch → after ≡ applied batch before → (rows : List StoreRow)
    → Fold (payload ∷ payloads) before rows → Fold payloads after rows
fold_back payload payloads before after batch is taken rows made =
    let same = same_batch payload made.0 batch made.1 is in
    subst (λ (rs : List StoreRow). Fold payloads rs rows) (ap (λ (b : ChangeList). applied b before) same ∙ sym taken) made.2

-- the payloads from a place on: the one that stands there, and those behind it
pub payloads_from : (payloads : List (List ℕ)) (at : ℕ) (payload : List ℕ) → slice_get payloads at ≡ Some payload → drop at payloads ≡ payload ∷ drop (at + 1) payloads
payloads_from payloads at payload is =
    let next : suc at ≡ at + 1 = omega arith in
    drop-cons payloads at payload (slice_get_within payloads at payload is) ∙ ap (λ (p : List ℕ). p ∷ drop (suc at) payloads) (get_or_from_slice_get payloads at payload payload is)
    ∙ ap (λ (n : ℕ). payload ∷ drop n payloads) next
