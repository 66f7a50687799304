-- A pair that stands for a state isn't absent.
use Rattle.std.proofs.Common.{inl, inr, ℕ, List, [], ◌∷◌}
use Rattle.pair_store.proofs.Choosing.{list_is_store}
use Rattle.client_state.specs.declared.client_state.ClientState.{ClientState}
use Rattle.client_store.specs.Store.{StandsFor, KeptAmong, IsAbsent}
use Rattle.client_store.proofs.Holding.{stands_of_kept}

pub stands_not_absent : (l r : List ℕ) (s : ClientState) → StandsFor l r s → IsAbsent l r → ⊥
stands_not_absent l r s stands absent = list_is_store l r stands.rows.0 stands.rows.1 absent

-- nor is one that is kept for one of some states
pub among_not_absent : (l r : List ℕ) (states : List ClientState) → KeptAmong l r states → IsAbsent l r → ⊥
among_not_absent l r [] among absent = among
among_not_absent l r (s ∷ states) (inl kept) absent = stands_not_absent l r s (stands_of_kept l r s kept) absent
among_not_absent l r (s ∷ states) (inr among) absent = among_not_absent l r states among absent
