-- What a crash may leave while a call on a row store is at work. The text said is that of the call's start.
use Rattle.std.specs.Prelude.{◌≡◌, ◌⊎◌, ℕ, List}
use Rattle.host_model.specs.declared.host.Host.{Ghosts}
use Rattle.row_batches.specs.declared.store_row.StoreRow.{StoreRow}
use Rattle.row_store.specs.Rows.{HasKeptRows}

-- the map of before or that of after, with a byte where the next batch begins
abbrev pub KeepsEitherRows : {H : Type 0} → Ghosts H → H → List StoreRow → List StoreRow → List ℕ → List ℕ → List ℕ → Type 0
KeepsEitherRows h start before after l r u = (HasKeptRows l r before ⊎ HasKeptRows l r after) × (u ≡ h.said start)
