-- Values of objects, by their places.
use Rattle.std.specs.Prelude.{ℕ, zero, suc, List, [], ◌∷◌, ◌++◌, get_or}

abbrev pub value_in : List ℕ → ℕ → ℕ
value_in vs i = get_or vs i 0

-- the values at the first places
abbrev pub table : (ℕ → ℕ) → ℕ → List ℕ
table f zero = []
table f (suc n) = table f n ++ f n ∷ []
