-- Weights after rounds, whatever values they begin with, where no object is too high.
use Rattle.std.proofs.Common.{◌≡◌, ℕ, zero, suc, ◌+◌, ◌*◌, ◌<◌, ◌≤◌, List, [], ◌∷◌, length, Bool, Option, Some, None, inl, inr, refl, sym, ap, ap₂, ◌∙◌, subst, arith, add-one}
use Rattle.std.proofs.lemmas.Bool.{cases_lt, lt-ltb}
use Rattle.std.proofs.lemmas.List.Sums.{sum_by-cons}
use Rattle.std.specs.List.{sum_by}
use Rattle.std.specs.Prelude.{max, nat_lt, if◌then◌else◌}
use Rattle.fml_types.specs.Capped.{cap}
use Rattle.fml_types.specs.CappedWeights.{next_capped, capped_weight_up_to}
use Rattle.fml_types.specs.Ground.{parts_at, greatest, at, reached, reached_all, value_of_need, needed, higher, height_up_to, share}
use Rattle.fml_types.specs.Values.{value_in, table}
use Rattle.fml_types.specs.declared.graph.Need.{Need}
use Rattle.fml_types.specs.declared.graph.Need.TheVariants.{Nothing, Mentioned, Reached}
use Rattle.fml_types.specs.declared.graph.Part.{Part}
use Rattle.fml_types.proofs.HeightRounds.{height_agrees}
use Rattle.fml_types.proofs.Rounds.{next_weight_past, weight_past}
use Rattle.fml_types.proofs.Tables.{is_table, past, table-length, values_next}

-- ---- values that are the same at each object of at most some height

at_same : (h v w : ℕ → ℕ) (k : ℕ) → ((i : ℕ) → h i ≤ k → v i ≡ w i) → (o : Option ℕ) → at h o ≤ k → at v o ≡ at w o
at_same h v w k same None low = refl
at_same h v w k same (Some i) low = same i low

greatest_same : (low f f' : Part → ℕ) (k : ℕ) → ((p : Part) → low p ≤ k → f p ≡ f' p) → (ps : List Part) → greatest low ps ≤ k → greatest f ps ≡ greatest f' ps
greatest_same low f f' k same [] h = refl
greatest_same low f f' k same (p ∷ ps) h = ap₂ max (same p (omega (arith, h))) (greatest_same low f f' k same ps (omega (arith, h)))

reached_same : (g : List (List Part)) (h v w : ℕ → ℕ) (k : ℕ) → ((i : ℕ) → h i ≤ k → v i ≡ w i) → (n i : ℕ) → reached g h n i ≤ k → reached g v n i ≡ reached g w n i
reached_same g h v w k same zero i low = same i low
reached_same g h v w k same (suc n) i low =
    let far = greatest_same (λ (p : Part). at (reached g h n) p.mentions) (λ (p : Part). at (reached g v n) p.mentions) (λ (p : Part). at (reached g w n) p.mentions) k
    (λ p. at_same (reached g h n) (reached g v n) (reached g w n) k (reached_same g h v w k same n) p.mentions) (parts_at g i) (omega (arith, low)) in
    ap₂ max (same i (omega (arith, low))) far

need_same : (g : List (List Part)) (h v w : ℕ → ℕ) (k : ℕ) → ((i : ℕ) → h i ≤ k → v i ≡ w i) → (o : Option ℕ) (n : Need) → value_of_need h (reached_all g h) o n ≤ k → value_of_need v (reached_all g v) o n ≡ value_of_need w (reached_all g w) o n
need_same g h v w k same o Nothing low = refl
need_same g h v w k same o Mentioned low = at_same h v w k same o low
need_same g h v w k same o Reached low = at_same (reached_all g h) (reached_all g v) (reached_all g w) k (reached_same g h v w k same (length g)) o low

pub shares_same : (g : List (List Part)) (h v w : ℕ → ℕ) (k : ℕ) → ((i : ℕ) → h i ≤ k → v i ≡ w i) → (ps : List Part) → greatest (needed h (reached_all g h)) ps ≤ k → sum_by (share v (reached_all g v)) ps ≡ sum_by (share w (reached_all g w)) ps
shares_same g h v w k same [] low = refl
shares_same g h v w k same (p ∷ ps) low =
    let one = need_same g h v w k same p.mentions p.need (omega (arith, low)) in
    let rest = shares_same g h v w k same ps (omega (arith, low)) in
    sum_by-cons (share v (reached_all g v)) p ps ∙ ap₂ (λ a b. (p.size + p.times * a) + b) one rest ∙ sym (sum_by-cons (share w (reached_all g w)) p ps)

-- ---- heights that no round changes

-- each object is one higher than what it needs
abbrev AreHeights : List (List Part) → (ℕ → ℕ) → Type 0
AreHeights g h = (i : ℕ) → h i ≡ higher g h (reached_all g h) i

are_heights : (g : List (List Part)) (k : ℕ) → ((i : ℕ) → height_up_to g (suc k) i ≤ k) → AreHeights g (height_up_to g (suc k))
are_heights g k low i =
    let same : height_up_to g k ≡ height_up_to g (suc k) = λ j m. (let e : height_up_to g k m ≡ height_up_to g (suc k) m = omega (arith, height_agrees g k m, low m) in e) j in
    ap (λ (h : ℕ → ℕ). higher g h (reached_all g h) i) same

one_higher : (g : List (List Part)) (h : ℕ → ℕ) → AreHeights g h → (i : ℕ) → i < length g → h i ≡ suc (greatest (needed h (reached_all g h)) (parts_at g i))
one_higher g h heights i within = heights i ∙ ap (λ (b : Bool). if b then suc (greatest (needed h (reached_all g h)) (parts_at g i)) else 0) (lt-ltb i (length g) within)

-- ---- rounds of weights

-- the values of the objects of at most this height are their weights
abbrev Weigh : List (List Part) → (ℕ → ℕ) → ℕ → (ℕ → ℕ) → Type 0
Weigh g h k v = (i : ℕ) → h i ≤ k → v i ≡ capped_weight_up_to g k i

none_weigh : (g : List (List Part)) (h : ℕ → ℕ) (xs : List ℕ) → AreHeights g h → length xs ≡ length g → Weigh g h 0 (value_in xs)
none_weigh g h xs heights count i low =
    elim (cases_lt i (length g)) [
      | inl within ↦ let e = one_higher g h heights i within in absurd (omega (arith, e, low))
      | inr beyond ↦ past xs i (omega (arith, count, beyond))
    ]

next_weigh : (g : List (List Part)) (h : ℕ → ℕ) → AreHeights g h → (k : ℕ) (v : ℕ → ℕ) → Weigh g h k v → Weigh g h (suc k) (next_capped g v)
next_weigh g h heights k v so_far i low =
    elim (cases_lt i (length g)) [
      | inl within ↦
          let e = one_higher g h heights i within in
          ap (λ s. cap (if nat_lt i (length g) then 2 + s else 0)) (shares_same g h v (capped_weight_up_to g k) k so_far (parts_at g i) (omega (arith, e, low)))
      | inr beyond ↦ next_weight_past g v i beyond ∙ sym (weight_past g (suc k) i beyond)
    ]

-- ---- what the loop keeps

pub record AreWeightsUpTo (g : List (List Part)) (k : ℕ) (xs : List ℕ) : Type 0 where
  pub count : length xs ≡ length g
  pub weigh : (i : ℕ) → height_up_to g 33 i ≤ k → value_in xs i ≡ capped_weight_up_to g k i

pub weights_begin : (g : List (List Part)) (xs : List ℕ) → ((i : ℕ) → height_up_to g 33 i ≤ 32) → length xs ≡ length g → AreWeightsUpTo g 0 xs
weights_begin g xs low count = record { count = count; weigh = none_weigh g (height_up_to g 33) xs (are_heights g 32 low) count }

pub weights_next : (g : List (List Part)) (k : ℕ) (xs ys : List ℕ) → ((i : ℕ) → height_up_to g 33 i ≤ 32) → AreWeightsUpTo g k xs → ys ≡ table (next_capped g (value_in xs)) (length g) → AreWeightsUpTo g (k + 1) ys
weights_next g k xs ys low so_far made =
    let next : value_in ys ≡ next_capped g (value_in xs) = values_next (next_capped g) (length g) xs ys (next_weight_past g) made in
    let count : length ys ≡ length g = ap length made ∙ table-length (next_capped g (value_in xs)) (length g) in
    subst (λ m. AreWeightsUpTo g m ys) (sym (add-one k)) (record {
      count = count;
      weigh = subst (Weigh g (height_up_to g 33) (suc k)) (sym next) (next_weigh g (height_up_to g 33) (are_heights g 32 low) k (value_in xs) so_far.weigh);
    })

pub weights_end : (g : List (List Part)) (xs : List ℕ) → ((i : ℕ) → height_up_to g 33 i ≤ 32) → AreWeightsUpTo g 32 xs → xs ≡ table (capped_weight_up_to g 32) (length g)
weights_end g xs low all = is_table (capped_weight_up_to g 32) (length g) xs all.count (λ i h. all.weigh i (low i))

-- values that a round leaves as they are
fixed_weigh : (g : List (List Part)) (h : ℕ → ℕ) (xs : List ℕ) → AreHeights g h → length xs ≡ length g → next_capped g (value_in xs) ≡ value_in xs → (k : ℕ) → Weigh g h k (value_in xs)
fixed_weigh g h xs heights count fixed zero = none_weigh g h xs heights count
fixed_weigh g h xs heights count fixed (suc k) = subst (Weigh g h (suc k)) fixed (next_weigh g h heights k (value_in xs) (fixed_weigh g h xs heights count fixed k))

pub weights_settled : (g : List (List Part)) (xs ys : List ℕ) → ((i : ℕ) → height_up_to g 33 i ≤ 32) → length xs ≡ length g → ys ≡ table (next_capped g (value_in xs)) (length g) → ys ≡ xs → xs ≡ table (capped_weight_up_to g 32) (length g)
weights_settled g xs ys low count made same =
    let fixed : next_capped g (value_in xs) ≡ value_in xs = sym (values_next (next_capped g) (length g) xs ys (next_weight_past g) made) ∙ ap value_in same in
    weights_end g xs low (record { count = count; weigh = fixed_weigh g (height_up_to g 33) xs (are_heights g 32 low) count fixed 32 })
