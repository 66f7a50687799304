-- What might be met at the moments of a call: a left and a right image, and the text that was said.
use Rattle.std.specs.Prelude.{◌≡◌, ◌⊎◌, ℕ, List}
use Rattle.client_state.specs.declared.client_state.ClientState.{ClientState}
use Rattle.client_store.specs.Store.{KeptFor, KeptAmong}

-- while a change from s to t is written: nothing is said
abbrev pub WhileWritten : List ℕ → ClientState → ClientState → List ℕ → List ℕ → List ℕ → Type 0
WhileWritten said s t l r u = (KeptFor l r s ⊎ KeptFor l r t) × (u ≡ said)

-- nothing is said
abbrev pub IsQuiet : List ℕ → List ℕ → List ℕ → List ℕ → Type 0
IsQuiet said l r u = u ≡ said

-- each image is kept for the state of before, and nothing is said
abbrev pub IsLeftAs : List ℕ → ClientState → List ℕ → List ℕ → List ℕ → Type 0
IsLeftAs said s l r u = KeptFor l r s × (u ≡ said)

-- for one of the states of before
abbrev pub IsLeftAmong : List ℕ → List ClientState → List ℕ → List ℕ → List ℕ → Type 0
IsLeftAmong said states l r u = KeptAmong l r states × (u ≡ said)
