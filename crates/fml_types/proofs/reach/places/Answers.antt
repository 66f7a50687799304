use Rattle.std.proofs.Common.{◌≡◌, ℕ, ◌+◌, ◌<◌, List, [], ◌∷◌, ◌++◌, inl, inr, sym, subst, arith}
use Rattle.std.proofs.lemmas.Bool.{cases_lt}
use Rattle.std.proofs.lemmas.List.Elements.{All-push, All-same, All-weaker, Contains-append_left, Contains-push}
use Rattle.std.specs.List.{All, Contains}
use Rattle.fml_types.proofs.reach.places.Goals as goal

all_more : (xs ys : List ℕ) (n : ℕ) → ys ≡ xs ++ n ∷ [] → All (λ i. i < n) xs → All (λ i. i < n + 1) ys
all_more xs ys n e h = All-same (λ i. i < n + 1) ys (xs ++ n ∷ []) e (All-push (λ i. i < n + 1) xs n (All-weaker (λ i. i < n) (λ i. i < n + 1) (λ i low. omega arith) xs h) (omega arith))

each_more : (xs ys : List ℕ) (n : ℕ) → ys ≡ xs ++ n ∷ [] → ((i : ℕ) → i < n → Contains xs i) → (i : ℕ) → i < n + 1 → Contains ys i
each_more xs ys n e h i low =
    subst (λ (l : List ℕ). Contains l i) (sym e) (elim (cases_lt i n) [
      | inl before ↦ Contains-append_left xs (n ∷ []) i (h i before)
      | inr last ↦ let same : n ≡ i = omega arith in subst (λ (k : ℕ). Contains (xs ++ n ∷ []) k) same (Contains-push xs n)
    ])

pub loop-place-preserved : goal.loop-place-preserved
loop-place-preserved c = record {
  within = all_more c.loop-place.places.items c.push.new.self.items c.loop-place.place c.in_ok-push.ensures.items c.loop-place.invariant.within;
  each = each_more c.loop-place.places.items c.push.new.self.items c.loop-place.place c.in_ok-push.ensures.items c.loop-place.invariant.each;
}
