-- What a call answered, said in other words.
use Rattle.std.proofs.Common.{◌≡◌, ℕ, ◌+◌, ◌<◌, List, [], ◌∷◌, ◌++◌, length, get_or, take, Result, Ok, Err, append-nil, refl, sym, ap, ◌∙◌}
use Rattle.std.specs.Prelude.{IfOk, fold}
use Rattle.std.specs.List.{flat_map}
use Rattle.std.proofs.lemmas.Grind.{flat_map-append}
use Rattle.std.proofs.lemmas.List.{take_more}

pub if_ok : {T E : Type 0} (r : Result T E) (a b : T) → a ≡ b → IfOk r (λ t. t ≡ a) → IfOk r (λ t. t ≡ b)
if_ok (Ok t) a b e h = h ∙ e
if_ok (Err x) a b e h = tt

-- one more item
pub flat_map-more : {X Y : Type 0} (f : X → List Y) (xs : List X) (i : ℕ) (x : X) (ys zs : List Y) → i < length xs → x ≡ get_or xs i x → ys ≡ flat_map f (take i xs) → zs ≡ ys ++ f x → zs ≡ flat_map f (take (i + 1) xs)
flat_map-more f xs i x ys zs less here before more =
    more ∙ ap (λ l. l ++ f x) before ∙ ap (λ y. flat_map f (take i xs) ++ f y) here ∙ sym (ap (flat_map f) (take_more xs i x less) ∙ flat_map-append f (take i xs) (get_or xs i x ∷ []) ∙ ap (λ l. flat_map f (take i xs) ++ l) (append-nil (f (get_or xs i x))))

pub fold-append : {X Y : Type 0} (f : Y → X → Y) (xs ys : List X) (acc : Y) → fold f acc (xs ++ ys) ≡ fold f (fold f acc xs) ys
fold-append f [] ys acc = refl
fold-append f (x ∷ xs) ys acc = fold-append f xs ys (f acc x)
