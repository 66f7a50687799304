-- What is made of items one after the other, where a reading may fail.
use Rattle.std.specs.Prelude.{List, [], ◌∷◌, ◌++◌, Option, Some, None}
use Rattle.state_values.specs.Outcome.{◌>>=◌}

-- each item in turn makes more of what there is, or the reading fails
abbrev pub folded : {A B : Type 0} → (B → A → Option B) → B → List A → Option B
folded step b [] = Some b
folded step b (a ∷ as') = step b a >>= λ c. folded step c as'

abbrev pub with_last : {A : Type 0} → List A → Option A → List A
with_last as' None = as'
with_last as' (Some a) = as' ++ a ∷ []

-- what is read of an item, if anything, comes to the end
abbrev pub keeping : {A B : Type 0} → (A → Option (Option B)) → List B → A → Option (List B)
keeping read bs a = read a >>= λ o. Some (with_last bs o)
