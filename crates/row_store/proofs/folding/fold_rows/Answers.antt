use Rattle.std.proofs.Common.{rules, ◌≡◌, ◌+◌, ◌∷◌, [], List, ℕ, Some, IsErrOf, drop, option_map, slice_get, refl, sym, ap, ◌∙◌, subst, arith}
use Rattle.std.proofs.lemmas.List.{drop_all}
use Rattle.row_batches.specs.Batch.{ChangeList, applied}
use Rattle.row_batches.specs.Rows.{AreRows}
use Rattle.row_batches.specs.declared.fault.BatchFault.TheVariants.{NotABatch}
use Rattle.row_batches.specs.declared.store_row.StoreRow.{StoreRow}
use Rattle.row_store.specs.Folding.{Fold, IsBatchOf}
use Rattle.row_store.specs.Listing.{rows_in}
use Rattle.row_store.proofs.Folds.{fold_on, fold_back, made_sound, no_rows, payloads_from}
use Rattle.row_store.proofs.folding.fold_rows.Goals as goal

pub loop-place-preserved : goal.loop-place-preserved
loop-place-preserved c =
    let payloads : List (List ℕ) = c.args.payloads.now in
    let place : ℕ = c.loop-place.place in
    let payload : List ℕ = c.in-Some.payload.now in
    let batch : ChangeList = c.in_ok-batch.batch in
    let before : List StoreRow = rows_in c.loop-place.tree.entries in
    let after : List StoreRow = rows_in c.take_batch.new.tree.entries in
    let rest : List (List ℕ) = drop (place + 1) payloads in
    let is : IsBatchOf payload batch = record { rules = c.in_ok-batch.ensures.rules; bytes = c.in_ok-batch.ensures.batch } in
    let taken : after ≡ applied batch before = c.in_ok-take_batch.ensures.rows in
    let found : slice_get payloads place ≡ Some payload = sym c.get.ensures ∙ ap (λ o. option_map (λ p. p.now) o) c.in-Some.is in
    let first : drop place payloads ≡ payload ∷ rest = payloads_from payloads place payload found in
    record {
      on = λ rows made. c.loop-place.invariant.on rows (subst (λ (ps : List (List ℕ)). Fold ps before rows) (sym first) (fold_on payload rest before after batch is taken rows made));
      back = λ rows made. fold_back payload rest before after batch is taken rows (subst (λ (ps : List (List ℕ)). Fold ps before rows) first (c.loop-place.invariant.back rows made));
      rise = c.in_ok-take_batch.ensures.rise;
    }

pub loop-place-init : goal.loop-place-init
loop-place-init c =
    let none : rows_in c.new-tree.result.entries ≡ [] = ap (λ es. rows_in es) c.new-tree.ensures.empty in
    record {
      on = λ rows made. subst (λ (rs : List StoreRow). Fold c.args.payloads.now rs rows) none made;
      back = λ rows made. subst (λ (rs : List StoreRow). Fold c.args.payloads.now rs rows) (sym none) made;
      rise = subst AreRows (sym none) no_rows.rise;
    }

pub from_rows-requires : goal.from_rows-requires
from_rows-requires c =
    let payloads : List (List ℕ) = c.args.payloads.now in
    let place : ℕ = c.loop-place.place in
    let rows : List StoreRow = rows_in c.loop-place.tree.entries in
    let ended : drop place payloads ≡ [] = drop_all place payloads (omega arith) in
    made_sound payloads rows c.in_ok-rows.rows (c.loop-place.invariant.on rows (subst (λ (ps : List (List ℕ)). Fold ps rows rows) (sym ended) refl)) c.in_ok-rows.ensures

pub returns-in_err-batch-clause-none : goal.returns-in_err-batch-clause-none
returns-in_err-batch-clause-none c is rows made =
    let payloads : List (List ℕ) = c.args.payloads.now in
    let place : ℕ = c.loop-place.place in
    let payload : List ℕ = c.in-Some.payload.now in
    let found : slice_get payloads place ≡ Some payload = sym c.get.ensures ∙ ap (λ o. option_map (λ p. p.now) o) c.in-Some.is in
    let first : drop place payloads ≡ payload ∷ drop (place + 1) payloads = payloads_from payloads place payload found in
    let left = subst (λ (ps : List (List ℕ)). Fold ps (rows_in c.loop-place.tree.entries) rows) first (c.loop-place.invariant.back rows made) in
    let told : IsErrOf c.batch_of.result NotABatch = search rules in
    c.batch_of.ensures.not_a_batch told left.0 left.1.rules left.1.bytes
