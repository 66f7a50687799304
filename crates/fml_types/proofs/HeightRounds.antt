-- Heights after rounds, whatever values they begin with.
use Rattle.std.proofs.Common.{◌≡◌, ℕ, zero, suc, ◌+◌, ◌<◌, ◌≤◌, List, length, Bool, true, false, sym, ap, ap₂, ◌∙◌, subst, arith, add-one}
use Rattle.std.specs.Prelude.{min, nat_lt, if◌then◌else◌}
use Rattle.fml_types.specs.CappedHeights.{next_capped}
use Rattle.fml_types.specs.Ground.{parts_at, greatest, reached_all, needed, next_heights, height_up_to}
use Rattle.fml_types.specs.Values.{value_in, table}
use Rattle.fml_types.specs.declared.graph.Part.{Part}
use Rattle.fml_types.proofs.Bounding.{up_to, greatest-up_to, needed-up_to, reached-up_to}
use Rattle.fml_types.proofs.Rounds.{next_height_past}
use Rattle.fml_types.proofs.Tables.{is_table, table-length, values_next}

-- the values up to so much are the heights up to so much
abbrev pub AgreeUpTo : List (List Part) → ℕ → (ℕ → ℕ) → Type 0
AgreeUpTo g k v = (i : ℕ) → min (v i) k ≡ height_up_to g k i

suc_up_to : (b : Bool) (m n k : ℕ) → min m k ≡ n → min (if b then suc m else 0) (suc k) ≡ (if b then suc n else 0)
suc_up_to true m n k e = omega (arith, e)
suc_up_to false m n k e = omega arith

-- one round more makes them agree one further
pub next_agrees : (g : List (List Part)) (k : ℕ) (v : ℕ → ℕ) → AgreeUpTo g k v → AgreeUpTo g (suc k) (next_heights g v)
next_agrees g k v agree i =
    let h = height_up_to g k in
    let r = reached_all g v in
    let near : up_to k v ≡ h = λ j m. agree m j in
    let far : up_to k r ≡ reached_all g h = (λ j m. sym (reached-up_to g k v (length g) m) j) ∙ ap (reached_all g) near in
    let low : min (greatest (needed v r) (parts_at g i)) k ≡ greatest (needed h (reached_all g h)) (parts_at g i) =
    sym (greatest-up_to k (needed v r) (needed (up_to k v) (up_to k r)) (needed-up_to k v r) (parts_at g i)) ∙ ap₂ (λ a b. greatest (needed a b) (parts_at g i)) near far in
    suc_up_to (nat_lt i (length g)) (greatest (needed v r) (parts_at g i)) (greatest (needed h (reached_all g h)) (parts_at g i)) k low

pub none_agrees : (g : List (List Part)) (v : ℕ → ℕ) → AgreeUpTo g 0 v
none_agrees g v i = omega arith

capped_agrees : (g : List (List Part)) (k : ℕ) (v : ℕ → ℕ) → k < 33 → AgreeUpTo g k v → AgreeUpTo g (suc k) (next_capped g v)
capped_agrees g k v low agree i = let next = next_agrees g k v agree i in omega (arith, next, low)

-- heights are heights of one round more, as far as they go
pub height_agrees : (g : List (List Part)) (k : ℕ) → AgreeUpTo g k (height_up_to g (suc k))
height_agrees g zero i = omega arith
height_agrees g (suc k) i = next_agrees g k (height_up_to g (suc k)) (height_agrees g k) i

-- what a loop keeps
pub record AreHeightsUpTo (g : List (List Part)) (k : ℕ) (xs : List ℕ) : Type 0 where
  pub count : length xs ≡ length g
  pub agree : AgreeUpTo g k (value_in xs)
  pub low : 0 < k → (i : ℕ) → value_in xs i ≤ 33

pub heights_begin : (g : List (List Part)) (xs : List ℕ) → length xs ≡ length g → AreHeightsUpTo g 0 xs
heights_begin g xs count = record { count = count; agree = none_agrees g (value_in xs); low = λ none. absurd (omega (arith, none)) }

pub heights_next : (g : List (List Part)) (k : ℕ) (xs ys : List ℕ) → k < 33 → AreHeightsUpTo g k xs → ys ≡ table (next_capped g (value_in xs)) (length g) → AreHeightsUpTo g (k + 1) ys
heights_next g k xs ys less so_far made =
    let next : value_in ys ≡ next_capped g (value_in xs) = values_next (next_capped g) (length g) xs ys (next_height_past g) made in
    let count : length ys ≡ length g = ap length made ∙ table-length (next_capped g (value_in xs)) (length g) in
    subst (λ m. AreHeightsUpTo g m ys) (sym (add-one k)) (record {
      count = count;
      agree = subst (AgreeUpTo g (suc k)) (sym next) (capped_agrees g k (value_in xs) less so_far.agree);
      low = λ some i. let e = ap (λ (f : ℕ → ℕ). f i) next in omega (arith, e);
    })

pub heights_end : (g : List (List Part)) (xs : List ℕ) → AreHeightsUpTo g 33 xs → xs ≡ table (height_up_to g 33) (length g)
heights_end g xs all = is_table (height_up_to g 33) (length g) xs all.count (λ i h. let same = all.agree i in let low = all.low (omega arith) i in omega (arith, same, low))

-- values that a round leaves as they are
fixed_agree : (g : List (List Part)) (v : ℕ → ℕ) → next_capped g v ≡ v → (k : ℕ) → k ≤ 33 → AgreeUpTo g k v
fixed_agree g v fixed zero h = none_agrees g v
fixed_agree g v fixed (suc k) h = subst (AgreeUpTo g (suc k)) fixed (capped_agrees g k v (omega arith) (fixed_agree g v fixed k (omega arith)))

pub heights_settled : (g : List (List Part)) (xs ys : List ℕ) → length xs ≡ length g → ys ≡ table (next_capped g (value_in xs)) (length g) → ys ≡ xs → xs ≡ table (height_up_to g 33) (length g)
heights_settled g xs ys count made same =
    let fixed : next_capped g (value_in xs) ≡ value_in xs = sym (values_next (next_capped g) (length g) xs ys (next_height_past g) made) ∙ ap value_in same in
    heights_end g xs (record { count = count; agree = fixed_agree g (value_in xs) fixed 33 (omega arith); low = λ some i. let e = ap (λ (f : ℕ → ℕ). f i) fixed in omega (arith, e) })
