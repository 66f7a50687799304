-- What a pair of sides stands for. In l, r the left side comes first.
use Rattle.std.specs.Prelude.{◌⊎◌, ℕ, List, [], ◌∷◌}
use Rattle.pair_store.specs.Pair.{HasNoStore}
use Rattle.row_batches.specs.declared.store_row.StoreRow.{StoreRow}
use Rattle.row_store.specs.Rows.{HasRows, HasKeptRows}
use Rattle.client_state.specs.declared.client_state.ClientState.{ClientState}
use Rattle.client_state.specs.Forms.{IsForm}
use Rattle.client_state.specs.Sound.{IsSound}

-- the records fold to the rows of s, which is sound, or to their old form
pub record StandsFor (l r : List ℕ) (s : ClientState) : Type 0 where
  pub sound : IsSound s
  pub stored : List StoreRow
  pub form : IsForm s stored
  pub rows : HasRows l r stored

-- and a byte stands where the next record begins
pub record KeptFor (l r : List ℕ) (s : ClientState) : Type 0 where
  pub sound : IsSound s
  pub stored : List StoreRow
  pub form : IsForm s stored
  pub rows : HasKeptRows l r stored

-- kept for one of these states
abbrev pub KeptAmong : List ℕ → List ℕ → List ClientState → Type 0
KeptAmong l r [] = ⊥
KeptAmong l r (s ∷ states) = KeptFor l r s ⊎ KeptAmong l r states

-- there is no store: neither side's first byte is 1
abbrev pub IsAbsent : List ℕ → List ℕ → Type 0
IsAbsent l r = HasNoStore l r

-- there is a damaged one: a side's first byte is 1, and the pair stands for no state
pub record IsBad (l r : List ℕ) : Type 0 where
  pub found : IsAbsent l r → ⊥
  pub no_state : (s : ClientState) → StandsFor l r s → ⊥

-- there is a sound one: the pair stands for a state
abbrev pub IsStore : List ℕ → List ℕ → Type 0
IsStore l r = (s : ClientState) × StandsFor l r s
