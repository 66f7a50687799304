-- Rows that a pair kept still have their gate once it is opened.
use Rattle.std.proofs.Common.{◌≡◌, ℕ, List, [], subst}
use Rattle.host_model.specs.declared.host.Host.{Ghosts}
use Rattle.row_batches.specs.declared.store_row.StoreRow.{StoreRow}
use Rattle.pair_store.specs.Pair.{HasList, HasKeptList}
use Rattle.pair_store.specs.Store.{PairStandsWithGate}
use Rattle.pair_store.proofs.Unique.{one_list}
use Rattle.row_store.specs.Folding.{Fold}
use Rattle.row_store.specs.Rows.{HasKeptRows}
use Rattle.row_store.specs.Store.{StoredRows, RowsStandWithGate}

pub kept_gate : {H : Type 0} (h : Ghosts H) (l r : List ℕ) (store : StoredRows) (host : H) (payloads : List (List ℕ)) → HasList l r payloads → Fold payloads [] store.rows
    → ((others : List (List ℕ)) → HasKeptList l r others → PairStandsWithGate h store.records host others)
    → (rows : List StoreRow) → HasKeptRows l r rows → RowsStandWithGate h store host
kept_gate h l r store host payloads list made gate rows (others, kept, folded) =
    let same : others ≡ payloads = one_list l r others payloads (kept.0, kept.1) list in
    record { payloads = payloads; pair = subst (λ (p : List (List ℕ)). PairStandsWithGate h store.records host p) same (gate others kept); made = made }
