-- A list turns by one interval after the other.
use Rattle.std.proofs.Common.{◌≡◌, ℕ, zero, suc, ◌+◌, ◌<◌, ◌≤◌, List, [], ◌∷◌, ◌++◌, length, take, drop, min, Some, None, slice_get, refl, sym, ap, ◌∙◌, arith, ◌-◌, length-append, inl, inr}
use Rattle.std.proofs.Math.Seq.{take-length}
use Rattle.std.proofs.lemmas.Bool.{cases_lt}
use Rattle.std.proofs.lemmas.List.{length-replicate, length-take-le, take-append-le, take-replicate, take-take}
use Rattle.std.specs.Prelude.{replicate}
use Rattle.event_counts.specs.Lists.{capped, turned, raised}

take_within : (n m : ℕ) (xs ys : List ℕ) → n ≤ m → take n (xs ++ take m ys) ≡ take n (xs ++ ys)
take_within n m [] ys most = take-take n m ys most
take_within zero m (x ∷ xs) ys most = refl
take_within (suc n) m (x ∷ xs) ys most = ap (λ (l : List ℕ). x ∷ l) (take_within n m xs ys (omega arith))

one_behind : (n : ℕ) (xs : List ℕ) → replicate n 0 ++ (0 ∷ xs) ≡ 0 ∷ (replicate n 0 ++ xs)
one_behind zero xs = refl
one_behind (suc n) xs = ap (λ (l : List ℕ). 0 ∷ l) (one_behind n xs)

pub length_of_turned : (steps : ℕ) (xs : List ℕ) → length (turned steps xs) ≡ length xs
unfolding turned
length_of_turned steps xs = length-take-le (length xs) (replicate steps 0 ++ xs) (omega (arith, length-append (replicate steps 0) xs))

-- one interval, and then the others
pub turned_once : (steps n : ℕ) (xs : List ℕ) → n ≡ length xs → turned steps (take n (0 ∷ xs)) ≡ turned (suc steps) xs
unfolding turned
turned_once steps n xs is =
    let shorter : length (take n (0 ∷ xs)) ≡ n = length-take-le n (0 ∷ xs) (omega (arith, is)) in
    ap (λ m. take m (replicate steps 0 ++ take n (0 ∷ xs))) shorter
    ∙ take_within n n (replicate steps 0) (0 ∷ xs) (omega arith)
    ∙ ap (λ (l : List ℕ). take n l) (one_behind steps xs)
    ∙ ap (λ m. take m (0 ∷ (replicate steps 0 ++ xs))) is

pub turned_step : (left n : ℕ) (xs ys : List ℕ) → ys ≡ take n (0 ∷ xs) → n ≡ length xs → 0 < left → turned (left - 1) ys ≡ turned left xs
turned_step left n xs ys is whole some =
    let same : suc (left - 1) ≡ left = omega (arith, some) in
    ap (turned (left - 1)) is ∙ turned_once (left - 1) n xs whole ∙ ap (λ k. turned k xs) same

pub turned_not : (xs : List ℕ) → turned 0 xs ≡ xs
unfolding turned
turned_not xs = take-length xs

-- after its length a list has turned whole
pub turned_min : (steps : ℕ) (xs : List ℕ) → turned (min steps (length xs)) xs ≡ turned steps xs
unfolding turned
turned_min steps xs =
    elim (cases_lt steps (length xs)) [
      | inl less ↦ let same : min steps (length xs) ≡ steps = omega (arith, less) in ap (λ n. take (length xs) (replicate n 0 ++ xs)) same
      | inr least ↦
          let same : min steps (length xs) ≡ length xs = omega (arith, least) in
          let zeros : (n : ℕ) → length xs ≤ n → take (length xs) (replicate n 0 ++ xs) ≡ replicate (length xs) 0 =
          λ n most. take-append-le (length xs) (replicate n 0) xs (omega (arith, length-replicate {A = ℕ} n 0, most)) ∙ take-replicate (length xs) n 0 most in
          ap (λ n. take (length xs) (replicate n 0 ++ xs)) same ∙ zeros (length xs) (omega arith) ∙ sym (zeros steps least)
    ]

-- the newest count taken out and put back with more
pub raised_newest : (count room x : ℕ) (xs : List ℕ) → slice_get xs 0 ≡ Some x → room ≡ length xs → take room (capped (x + count) ∷ drop 1 xs) ≡ raised count xs
raised_newest count room x [] is whole = absurd (cc)
raised_newest count room x (y ∷ ys) is whole =
    let same : x ≡ y = cc in
    ap (λ n. take n (capped (x + count) ∷ ys)) whole ∙ take-length (capped (x + count) ∷ ys) ∙ ap (λ n. capped (n + count) ∷ ys) same

pub raised_none : (count : ℕ) (xs : List ℕ) → slice_get xs 0 ≡ None → drop 1 xs ≡ raised count xs
raised_none count [] is = refl
raised_none count (y ∷ ys) is = absurd (cc)
