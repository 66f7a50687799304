-- Lists of one word.
use Rattle.std.proofs.Common.{◌≡◌, ◌<◌, ◌≤◌, List, [], ◌∷◌, length, map, get_or, ap, sym, arith}

pub map-one : {A B : Type 0} (f : A → B) (xs : List A) (x : A) → 1 ≤ length xs → length xs < 2 → x ≡ get_or xs 0 x → map f xs ≡ f x ∷ []
map-one f [] x least below is = absurd (omega (arith, least))
map-one f (y ∷ []) x least below is = ap (λ v. f v ∷ []) (sym is)
map-one f (y ∷ z ∷ ys) x least below is = absurd (omega (arith, below))
