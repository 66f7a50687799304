-- Heights and weights over fields whose numbers are capped.
use Rattle.std.proofs.Common.{◌≡◌, ℕ, zero, suc, ◌+◌, ◌*◌, ◌<◌, ◌≤◌, List, [], ◌∷◌, length, map, Bool, true, false, Option, Some, None, inl, inr, refl, sym, ap, ap₂, ◌∙◌, subst, arith}
use Rattle.std.proofs.lemmas.Bool.{cases_lt}
use Rattle.std.proofs.lemmas.List.{length-map}
use Rattle.std.proofs.lemmas.List.Sums.{sum_by-cons}
use Rattle.std.proofs.Math.Nat.{zero-mul, mul-zero}
use Rattle.std.proofs.lemmas.Nat.{mul-le}
use Rattle.std.specs.List.{sum_by}
use Rattle.std.specs.Prelude.{max, nat_lt, if◌then◌else◌}
use Rattle.fml_types.specs.Capped.{cap, capped}
use Rattle.fml_types.specs.CappedWeights.{next_capped, capped_weight_up_to}
use Rattle.fml_types.specs.Graph.{graph_of}
use Rattle.fml_types.specs.Ground.{parts_at, greatest, at, farther, reached, reached_all, needed, higher, next_heights, height_up_to, share, heavier, weight_up_to, first_above, endless, too_large}
use Rattle.fml_types.specs.Values.{value_in, table}
use Rattle.fml_types.specs.declared.graph.Part.{Part}
use Rattle.fml_types.specs.declared.manifest.ObjectDefinition.{ObjectDefinition}
use Rattle.fml_types.proofs.Bounding.{needed-up_to, reached-up_to}
use Rattle.fml_types.proofs.Rounds.{height_past, weight_past}
use Rattle.fml_types.proofs.Tables.{value_in-table}

abbrev pub all_capped : List (List Part) → List (List Part)
all_capped g = map (λ ps. map capped ps) g

capped-length : (g : List (List Part)) → length (all_capped g) ≡ length g
capped-length [] = refl
capped-length (p ∷ ps) = ap suc (capped-length ps)

capped-parts : (g : List (List Part)) (i : ℕ) → parts_at (all_capped g) i ≡ map capped (parts_at g i)
capped-parts [] i = refl
capped-parts (p ∷ ps) zero = refl
capped-parts (p ∷ ps) (suc i) = capped-parts ps i

greatest-map : (f : Part → ℕ) (ps : List Part) → greatest f (map capped ps) ≡ greatest (λ p. f (capped p)) ps
greatest-map f [] = refl
greatest-map f (p ∷ ps) = ap (max (f (capped p))) (greatest-map f ps)

-- ---- heights

capped-farther : (g : List (List Part)) (v r : ℕ → ℕ) (i : ℕ) → farther (all_capped g) v r i ≡ farther g v r i
capped-farther g v r i = ap (max (v i)) (ap (greatest (λ (p : Part). at r p.mentions)) (capped-parts g i) ∙ greatest-map (λ (p : Part). at r p.mentions) (parts_at g i))

capped-reached : (g : List (List Part)) (v : ℕ → ℕ) (n : ℕ) → reached (all_capped g) v n ≡ reached g v n
capped-reached g v zero = refl
capped-reached g v (suc n) = ap (farther (all_capped g) v) (capped-reached g v n) ∙ (λ k i. capped-farther g v (reached g v n) i k)

capped-reached_all : (g : List (List Part)) (v : ℕ → ℕ) → reached_all (all_capped g) v ≡ reached_all g v
capped-reached_all g v = ap (reached (all_capped g) v) (capped-length g) ∙ capped-reached g v (length g)

capped-higher : (g : List (List Part)) (v r : ℕ → ℕ) (i : ℕ) → higher (all_capped g) v r i ≡ higher g v r i
capped-higher g v r i =
    ap₂ (λ n m. if nat_lt i n then suc m else 0) (capped-length g) (ap (greatest (needed v r)) (capped-parts g i) ∙ greatest-map (needed v r) (parts_at g i))

capped-heights : (g : List (List Part)) (k : ℕ) → height_up_to (all_capped g) k ≡ height_up_to g k
capped-heights g zero = refl
capped-heights g (suc k) =
    ap (next_heights (all_capped g)) (capped-heights g k) ∙ ap (higher (all_capped g) (height_up_to g k)) (capped-reached_all g (height_up_to g k)) ∙ (λ j i. capped-higher g (height_up_to g k) (reached_all g (height_up_to g k)) i j)

-- ---- weights

abbrev cap_all : (ℕ → ℕ) → ℕ → ℕ
cap_all v i = cap (v i)

above_times : (t w : ℕ) → 16385 ≤ t → 0 < w → 16385 ≤ t * w
above_times t w h k = let low = mul-le 16385 1 t w h (omega arith) in omega (arith, low)

times-above : (t w : ℕ) → 0 < t → 16385 ≤ w → 16385 ≤ t * w
times-above t w h k = let low = mul-le 1 16385 t w (omega arith) k in omega (arith, low)

cap-mul : (t w : ℕ) → cap (cap t * cap w) ≡ cap (t * w)
cap-mul zero w = ap cap (zero-mul (cap w) ∙ sym (zero-mul w))
cap-mul (suc t) zero = ap cap (mul-zero (cap (suc t)) ∙ sym (mul-zero (suc t)))
cap-mul (suc t) (suc w) =
    elim (cases_lt (suc t) 16385) [
      | inl low ↦ elim (cases_lt (suc w) 16385) [
        | inl small ↦ ap₂ (λ a b. cap (a * b)) (let e : cap (suc t) ≡ suc t = omega arith in e) (let e : cap (suc w) ≡ suc w = omega arith in e)
        | inr large ↦ let a = times-above (suc t) (suc w) (omega arith) large in let b = times-above (cap (suc t)) (cap (suc w)) (omega arith) (omega arith) in omega (arith, a, b)
      ]
      | inr high ↦ let a = above_times (suc t) (suc w) high (omega arith) in let b = above_times (cap (suc t)) (cap (suc w)) (omega arith) (omega arith) in omega (arith, a, b)
    ]

share-cap : (v r : ℕ → ℕ) (p : Part) → cap (share (cap_all v) (cap_all r) (capped p)) ≡ cap (share v r p)
share-cap v r p =
    let n = needed v r p in
    let product = cap-mul p.times n in
    ap (λ m. cap (cap p.size + cap p.times * m)) (needed-up_to 16385 v r p) ∙ sums (cap p.times * cap n) (p.times * n) p.size product
  where
    sums : (a b s : ℕ) → cap a ≡ cap b → cap (cap s + a) ≡ cap (s + b)
    sums a b s e = omega (arith, e)

sum-cap : (f h : Part → ℕ) → ((p : Part) → cap (h (capped p)) ≡ cap (f p)) → (b : ℕ) (ps : List Part) → cap (b + sum_by h (map capped ps)) ≡ cap (b + sum_by f ps)
sum-cap f h same b [] = refl
sum-cap f h same b (p ∷ ps) =
    let rest = sum-cap f h same (b + h (capped p)) ps in
    ap (λ s. cap (b + s)) (sum_by-cons h (capped p) (map capped ps)) ∙ regroup b (h (capped p)) (f p) (sum_by h (map capped ps)) (sum_by f ps) (same p) rest ∙ sym (ap (λ s. cap (b + s)) (sum_by-cons f p ps))
  where
    regroup : (b x y s t : ℕ) → cap x ≡ cap y → cap ((b + x) + s) ≡ cap ((b + x) + t) → cap (b + (x + s)) ≡ cap (b + (y + t))
    regroup b x y s t e rest = omega (arith, e, rest)

if-cap : (b : Bool) (m n : ℕ) → cap m ≡ cap n → cap (if b then m else 0) ≡ cap (if b then n else 0)
if-cap true m n e = e
if-cap false m n e = refl

capped-weights : (g : List (List Part)) (k i : ℕ) → capped_weight_up_to (all_capped g) k i ≡ cap (weight_up_to g k i)
capped-weights g zero i = refl
capped-weights g (suc k) i =
    let w = weight_up_to g k in
    let below : capped_weight_up_to (all_capped g) k ≡ cap_all w = λ j m. capped-weights g k m j in
    let far : reached_all (all_capped g) (cap_all w) ≡ cap_all (reached_all g w) = capped-reached_all g (cap_all w) ∙ (λ j m. reached-up_to g 16385 w (length g) m j) in
    let parts = parts_at g i in
    ap (λ v. next_capped (all_capped g) v i) below ∙ ap (λ r. cap (heavier (all_capped g) (cap_all w) r i)) far
    ∙ ap₂ (λ n ps. cap (if nat_lt i n then 2 + sum_by (share (cap_all w) (cap_all (reached_all g w))) ps else 0)) (capped-length g) (capped-parts g i)
    ∙ if-cap (nat_lt i (length g)) (2 + sum_by (share (cap_all w) (cap_all (reached_all g w))) (map capped parts)) (2 + sum_by (share w (reached_all g w)) parts)
    (sum-cap (share w (reached_all g w)) (share (cap_all w) (cap_all (reached_all g w))) (share-cap w (reached_all g w)) 2 parts)

-- ---- which is above the limit

above-cap : (n : ℕ) → nat_lt 16384 (cap n) ≡ nat_lt 16384 n
above-cap n =
    elim (cases_lt 16384 n) [
      | inl high ↦ let e : cap n ≡ 16385 = omega arith in ap (nat_lt 16384) e ∙ sym (lt_true 16384 n high)
      | inr low ↦ let e : cap n ≡ n = omega arith in ap (nat_lt 16384) e
    ]
  where
    lt_true : (i n : ℕ) → i < n → nat_lt i n ≡ true
    lt_true i n h = grind arith

first-cap : {T : Type 0} (v : ℕ → ℕ) (i : ℕ) (names : List (List ℕ × T)) → first_above 16384 (cap_all v) i names ≡ first_above 16384 v i names
first-cap v i [] = refl
first-cap v i (o ∷ os) = ap₂ (λ b rest. if b then Some o.0 else rest) (above-cap (v i)) (first-cap v (suc i) os)

-- no object is too high
not_above : {T : Type 0} (v : ℕ → ℕ) (j : ℕ) (names : List (List ℕ × T)) → first_above 32 v j names ≡ None → (i : ℕ) → j ≤ i → i < j + length names → v i ≤ 32
not_above v j [] h i low high = absurd (omega arith)
not_above v j (o ∷ os) h i low high =
    let parts = neither (nat_lt 32 (v j)) o.0 (first_above 32 v (suc j) os) h in
    elim (cases_lt j i) [
      | inl later ↦ not_above v (suc j) os parts.1 i later (omega arith)
      | inr here ↦ let same : i ≡ j = omega arith in subst (λ k. v k ≤ 32) (sym same) (not_less (v j) parts.0)
    ]
  where
    neither : (b : Bool) (n : List ℕ) (rest : Option (List ℕ)) → (if b then Some n else rest) ≡ None → (b ≡ false) × (rest ≡ None)
    neither true n rest e = absurd cc
    neither false n rest e = (refl, e)

    not_less : (n : ℕ) → nat_lt 32 n ≡ false → n ≤ 32
    not_less n e = grind arith

graph-length : (objects : List (List ℕ × ObjectDefinition)) → length (graph_of objects) ≡ length objects
graph-length objects = length-map objects _

pub low_heights : (objects : List (List ℕ × ObjectDefinition)) (graph : List (List Part)) → graph ≡ all_capped (graph_of objects) → endless objects ≡ None → (i : ℕ) → height_up_to graph 33 i ≤ 32
low_heights objects graph capped_graph none i =
    let v = height_up_to (graph_of objects) 33 in
    let same : height_up_to graph 33 ≡ v = ap (λ g. height_up_to g 33) capped_graph ∙ capped-heights (graph_of objects) 33 in
    subst (λ (f : ℕ → ℕ). f i ≤ 32) (sym same) (elim (cases_lt i (length objects)) [
      | inl within ↦ not_above v 0 objects none i (omega arith) (omega arith)
      | inr beyond ↦ let e = height_past (graph_of objects) 33 i (let len = graph-length objects in omega (arith, len)) in omega (arith, e)
    ])

pub endless_found : (objects : List (List ℕ × ObjectDefinition)) (graph : List (List Part)) (hs : List ℕ) → graph ≡ all_capped (graph_of objects) → hs ≡ table (height_up_to graph 33) (length graph) → first_above 32 (value_in hs) 0 objects ≡ endless objects
endless_found objects graph hs capped_graph made =
    let here : value_in hs ≡ height_up_to graph 33 = ap value_in made ∙ value_in-table (height_up_to graph 33) (length graph) (height_past graph 33) in
    ap (λ v. first_above 32 v 0 objects) (here ∙ ap (λ g. height_up_to g 33) capped_graph ∙ capped-heights (graph_of objects) 33)

pub large_found : (objects : List (List ℕ × ObjectDefinition)) (graph : List (List Part)) (ws : List ℕ) → graph ≡ all_capped (graph_of objects) → ws ≡ table (capped_weight_up_to graph 32) (length graph) → first_above 16384 (value_in ws) 0 objects ≡ too_large objects
large_found objects graph ws capped_graph made =
    let here : value_in ws ≡ capped_weight_up_to graph 32 = ap value_in made ∙ value_in-table (capped_weight_up_to graph 32) (length graph) (weight_past graph 32) in
    let weights : capped_weight_up_to (all_capped (graph_of objects)) 32 ≡ cap_all (weight_up_to (graph_of objects) 32) = λ j i. capped-weights (graph_of objects) 32 i j in
    ap (λ v. first_above 16384 v 0 objects) (here ∙ ap (λ g. capped_weight_up_to g 32) capped_graph ∙ weights) ∙ first-cap (weight_up_to (graph_of objects) 32) 0 objects
