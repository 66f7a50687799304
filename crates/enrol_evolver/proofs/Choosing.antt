-- The branch that a point falls to.
use Rattle.std.proofs.Common.{◌≡◌, ℕ, zero, suc, ◌+◌, ◌*◌, ◌^◌, ◌<◌, ◌≤◌, Bool, true, false, List, [], ◌∷◌, length, sum, Option, Some, slice_get, cond, refl, sym, ap, ◌∙◌, subst, arith}
use Rattle.std.specs.Prelude.{unwrap_or, ◌||◌, bytes_eq}
use Rattle.std.specs.List.{find, range_with_len, AllByRecursion}
use Rattle.std.specs.Cmp.Lexicographic.{bytes_decides}
use Rattle.std.proofs.lemmas.Bool.{lt-ltb, le-ltb}
use Rattle.std.proofs.lemmas.List.{length-map}
use Rattle.recipe_reader.specs.declared.recipe.Branch.{Branch}
use Rattle.sampling.specs.Sampling.{IsBranch, sum_through}
use Rattle.enrol_states.specs.Statuses.{IsSlug}
use Rattle.std.specs.List.{list_any}
use Rattle.enrol_evolver.specs.Verdicts.{ratios_of, is_below_share, branch_index, branch_slug, branch_at}

-- ---- the first number that passes

find-range : (p : ℕ → Bool) (a n i j : ℕ) → i < n → a + i ≡ j → p j ≡ true → ((k m : ℕ) → k < i → a + k ≡ m → p m ≡ false) → find p (range_with_len a n) ≡ Some j
find-range p a zero i j less e here before = absurd (omega arith)
find-range p a (suc n) zero j less e here before =
    let same : a ≡ j = omega arith in
    let first : p a ≡ true = subst (λ m. p m ≡ true) (sym same) here in
    ap (λ b. cond b (Some a) (find p (range_with_len (a + 1) n))) first ∙ ap Some same
find-range p a (suc n) (suc i) j less e here before =
    let first : p a ≡ false = before 0 a (omega arith) (omega arith) in
    ap (λ b. cond b (Some a) (find p (range_with_len (a + 1) n))) first ∙ find-range p (a + 1) n i j (omega arith) (omega arith) here (λ k m earlier f. before (suc k) m (omega arith) (omega arith))

found_first : (b : Bool) (a d m : ℕ) (o : Option ℕ) → a < m → unwrap_or o d < m → unwrap_or (cond b (Some a) o) d < m
found_first true a d m o one rest = one
found_first false a d m o one rest = rest

find_within : (p : ℕ → Bool) (a n d m : ℕ) → d < m → a + n ≤ m → unwrap_or (find p (range_with_len a n)) d < m
find_within p a zero d m less most = less
find_within p a (suc n) d m less most = found_first (p a) a d m (find p (range_with_len (a + 1) n)) (omega arith) (find_within p (a + 1) n d m less (omega arith))

-- ---- the branch

index_of : (point : ℕ) (ratios : List ℕ) (i : ℕ) → IsBranch point ratios i → branch_index point ratios ≡ i
index_of point ratios i h =
    ap (λ o. unwrap_or o 0)
    (find-range (is_below_share point ratios) 0 (length ratios) i i h.index (omega arith) (lt-ltb (point * sum ratios) (2 ^ 48 * sum_through ratios i) h.holds)
    (λ k m less e. let same : k ≡ m = omega arith in subst (λ x. is_below_share point ratios x ≡ false) same (le-ltb (point * sum ratios) (2 ^ 48 * sum_through ratios k) (h.least k less))))

pub branch-chosen : (point : ℕ) (bs : List Branch) (ratios : List ℕ) (i : ℕ) (b : Branch) → ratios ≡ ratios_of bs → IsBranch point ratios i → slice_get bs i ≡ Some b → b.slug ≡ branch_at point bs
unfolding branch_at
branch-chosen point bs ratios i b same h there =
    sym (ap (λ rs. branch_slug (slice_get bs (branch_index point rs))) (sym same) ∙ ap (λ k. branch_slug (slice_get bs k)) (index_of point ratios i h) ∙ ap branch_slug there)

-- it is one of the branches
pub IsOffered-at : (bs : List Branch) (i : ℕ) → i < length bs → AllByRecursion (λ (b : Branch). IsSlug b.slug) bs → IsSlug (branch_slug (slice_get bs i)) × (list_any (λ (b : Branch). bytes_eq b.slug (branch_slug (slice_get bs i))) bs ≡ true)
IsOffered-at [] i less slugs = absurd (omega arith)
IsOffered-at (b ∷ bs) zero less slugs = (slugs.0, ap (λ x. x || list_any (λ (d : Branch). bytes_eq d.slug b.slug) bs) ((bytes_decides b.slug b.slug).1 refl))
IsOffered-at (b ∷ bs) (suc i) less slugs = let rest = IsOffered-at bs i (omega arith) slugs.1 in (rest.0, or_true (bytes_eq b.slug (branch_slug (slice_get bs i))) _ rest.1) where
  or_true : (x y : Bool) → y ≡ true → (x || y) ≡ true
  or_true true y e = refl
  or_true false y e = e

pub branch-offered : (point : ℕ) (bs : List Branch) → 1 ≤ length bs → AllByRecursion (λ (b : Branch). IsSlug b.slug) bs → IsSlug (branch_at point bs) × (list_any (λ (b : Branch). bytes_eq b.slug (branch_at point bs)) bs ≡ true)
unfolding branch_at
branch-offered point bs some slugs =
    let same : length (ratios_of bs) ≡ length bs = length-map bs (λ (b : Branch). b.ratio) in
    IsOffered-at bs (branch_index point (ratios_of bs)) (find_within (is_below_share point (ratios_of bs)) 0 (length (ratios_of bs)) 0 (length bs) (omega (arith, some)) (omega (arith, same))) slugs
