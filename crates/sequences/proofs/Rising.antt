-- Texts rise exactly where each is below the next, and the texts of items in part of a list rise where all do.
use Rattle.std.proofs.Common.{Less, ◌≡◌, ◌+◌, ◌<◌, ◌++◌, ◌∷◌, [], List, ℕ, zero, suc, Bool, true, false, IsTrue, map, length, get_or, refl, sym, ap, ◌∙◌, arith}
use Rattle.std.specs.Prelude.{◌↔◌}
use Rattle.std.specs.List.{AllAdjacentBelow, IsAllAdjacentAnswer}
use Rattle.std.specs.List.Sorted.{IsStrictlySortedBy}
use Rattle.std.specs.Ordering.{is_lt}
use Rattle.sequences.specs.Order.{text_cmp, Rise, AreAbove}
use Rattle.sequences.proofs.Texts.{above_trans, is_Less}

abbrev below : {X : Type 0} → (X → List ℕ) → X → X → Bool
below text x y = is_lt (text_cmp (text x) (text y))

next : {X : Type 0} (x : X) (xs : List X) (k : ℕ) (d : X) → get_or (x ∷ xs) (suc k + 1) d ≡ get_or xs (k + 1) d
next x xs k d = let same : suc k + 1 ≡ suc (k + 1) = omega arith in ap (λ n. get_or (x ∷ xs) n d) same

rise_where : {X : Type 0} (text : X → List ℕ) (xs : List X) → AllAdjacentBelow (λ x y. true ≡ below text x y) xs (length xs) → Rise (map text xs)
unfolding IsStrictlySortedBy
rise_where text [] each = tt
rise_where text (x ∷ []) each = (tt, tt)
rise_where text (x ∷ y ∷ ys) each =
    let rest = rise_where text (y ∷ ys) (λ k d h. each (suc k) d (omega arith) ∙ ap (λ z. below text (get_or (y ∷ ys) k d) z) (next x (y ∷ ys) k d)) in
    let less : text_cmp (text x) (text y) ≡ Less = is_Less (text_cmp (text x) (text y)) (sym (each 0 x (omega arith))) in
    ((less, above_trans (text x) (text y) (map text ys) less rest.0), rest)

no_rise : {X : Type 0} (text : X → List ℕ) (xs : List X) (k : ℕ) → k + 1 < length xs → ((d : X) → false ≡ below text (get_or xs k d) (get_or xs (k + 1) d)) → Rise (map text xs) → ⊥
unfolding IsStrictlySortedBy
no_rise text [] k within fails rise = omega arith
no_rise text (x ∷ []) k within fails rise = omega arith
no_rise text (x ∷ y ∷ ys) zero within fails rise = let first = fails x in let less = ap is_lt rise.0.0 in cc
no_rise text (x ∷ y ∷ ys) (suc k) within fails rise =
    no_rise text (y ∷ ys) k (omega arith) (λ d. fails d ∙ ap (λ z. below text (get_or (y ∷ ys) k d) z) (next x (y ∷ ys) k d)) rise.1

pub rise_answer : {X : Type 0} (text : X → List ℕ) (xs : List X) (b : Bool) → IsAllAdjacentAnswer (λ x y a. a ≡ is_lt (text_cmp (text x) (text y))) xs b → IsTrue b ↔ Rise (map text xs)
rise_answer text xs true answer = (λ is. rise_where text xs answer, λ rise. refl)
rise_answer text xs false answer = (λ is. absurd cc, λ rise. absurd (no_rise text xs answer.0 answer.1 answer.2 rise))

-- ---- the texts of items that rise

module _ {X : Type 0} (text : X → List ℕ) where
  pub above_front : (s : List ℕ) (xs ys : List X) → AreAbove s (map text (xs ++ ys)) → AreAbove s (map text xs)
  above_front s [] ys above = tt
  above_front s (x ∷ xs) ys above = (above.0, above_front s xs ys above.1)

  pub above_behind : (s : List ℕ) (xs ys : List X) → AreAbove s (map text (xs ++ ys)) → AreAbove s (map text ys)
  above_behind s [] ys above = above
  above_behind s (x ∷ xs) ys above = above_behind s xs ys above.1

  -- those behind the first are above it, and rise
  pub rest_above : (x : X) (xs : List X) → Rise (map text (x ∷ xs)) → AreAbove (text x) (map text xs)
  unfolding IsStrictlySortedBy
  rest_above x xs rise = rise.0

  pub rest_rises : (x : X) (xs : List X) → Rise (map text (x ∷ xs)) → Rise (map text xs)
  unfolding IsStrictlySortedBy
  rest_rises x xs rise = rise.1

  pub front_rises : (xs ys : List X) → Rise (map text (xs ++ ys)) → Rise (map text xs)
  unfolding IsStrictlySortedBy
  front_rises [] ys rise = tt
  front_rises (x ∷ xs) ys rise = (above_front (text x) xs ys rise.0, front_rises xs ys rise.1)

  pub behind_rises : (xs ys : List X) → Rise (map text (xs ++ ys)) → Rise (map text ys)
  unfolding IsStrictlySortedBy
  behind_rises [] ys rise = rise
  behind_rises (x ∷ xs) ys rise = behind_rises xs ys rise.1

  -- what is below the first is below all
  pub first_above : (s : List ℕ) (x : X) (xs : List X) → text_cmp s (text x) ≡ Less → Rise (map text (x ∷ xs)) → AreAbove s (map text (x ∷ xs))
  unfolding IsStrictlySortedBy
  first_above s x xs less rise = (less, above_trans s (text x) (map text xs) less rise.0)

  pub all_above : (s : List ℕ) (xs : List X) (x : X) → 0 < length xs → x ≡ get_or xs 0 x → text_cmp s (text x) ≡ Less → Rise (map text xs) → AreAbove s (map text xs)
  all_above s [] x some is less rise = absurd (omega arith)
  all_above s (y ∷ ys) x some is less rise = first_above s y ys (ap (λ (z : X). text_cmp s (text z)) (sym is) ∙ less) rise
