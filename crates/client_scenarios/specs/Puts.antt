-- Names that are put at the end of a list.
use Rattle.std.specs.Prelude.{◌≡◌, ◌⊎◌, ◌++◌, ℕ, List, [], ◌∷◌}

-- the name is at the end of the new list, or the list is as it was
abbrev pub IsPut : List (List ℕ) → List ℕ → List (List ℕ) → Type 0
IsPut names name new_names = (new_names ≡ names ++ name ∷ []) ⊎ (new_names ≡ names)
