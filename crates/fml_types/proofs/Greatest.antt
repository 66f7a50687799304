-- The greatest of values, one more at a time.
use Rattle.std.proofs.Common.{◌≡◌, ℕ, ◌+◌, ◌<◌, List, [], ◌∷◌, ◌++◌, length, get_or, take, refl, sym, ap, ◌∙◌, arith}
use Rattle.std.specs.Prelude.{max}
use Rattle.std.proofs.lemmas.List.{take_more}
use Rattle.fml_types.specs.Ground.{greatest}

greatest_push : {A : Type 0} (f : A → ℕ) (xs : List A) (x : A) → greatest f (xs ++ x ∷ []) ≡ max (f x) (greatest f xs)
greatest_push f [] x = refl
greatest_push f (y ∷ ys) x = omega (arith, greatest_push f ys x)

pub greatest_more : {A : Type 0} (f : A → ℕ) (xs : List A) (i : ℕ) (d : A) → i < length xs → max (f (get_or xs i d)) (greatest f (take i xs)) ≡ greatest f (take (i + 1) xs)
greatest_more f xs i d h = sym (ap (greatest f) (take_more xs i d h) ∙ greatest_push f (take i xs) (get_or xs i d))
