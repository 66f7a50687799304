-- What a function makes of the first elements of a list, one element at a time.
use Rattle.std.proofs.Common.{◌≡◌, ℕ, ◌+◌, ◌<◌, List, [], ◌∷◌, ◌++◌, length, get_or, take, sym, ap, ◌∙◌}
use Rattle.std.proofs.lemmas.List.{take_more}

pub one_more : {X Y : Type 0} (f : List X → List Y) → ((xs ys : List X) → f (xs ++ ys) ≡ f xs ++ f ys) → (xs : List X) (i : ℕ) (x : X) (made grown : List Y)
    → i < length xs → x ≡ get_or xs i x → made ≡ f (take i xs) → grown ≡ made ++ f (x ∷ []) → grown ≡ f (take (i + 1) xs)
one_more f join xs i x made grown less is before after =
    after ∙ ap (λ l. l ++ f (x ∷ [])) before ∙ sym (join (take i xs) (x ∷ [])) ∙ ap (λ y. f (take i xs ++ y ∷ [])) is ∙ ap f (sym (take_more xs i x less))
