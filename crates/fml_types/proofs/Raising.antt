-- Values that are raised along mentions, one object more at a time.
use Rattle.std.proofs.Common.{◌≡◌, ℕ, ◌+◌, ◌<◌, ◌≤◌, List, [], ◌∷◌, ◌++◌, length, get_or, Bool, Option, Some, None, inl, inr, refl, sym, ap, ◌∙◌, subst, arith, length-append}
use Rattle.std.proofs.Math.ListN.{set}
use Rattle.std.proofs.lemmas.Bool.{cases_lt, cases_eq, le-ltb, lt-ltb}
use Rattle.std.proofs.lemmas.List.{length-set, get_or-set_same, get_or-set_other}
use Rattle.std.proofs.lemmas.List.Elements.{Contains-append_left, Contains-append_right, Contains-append_cases, Contains-push, Contains-push_cases, Contains-get_or}
use Rattle.std.proofs.lemmas.List.Sums.{sum_by-set}
use Rattle.std.specs.List.{All, Contains, count_by, sum_by}
use Rattle.std.specs.Prelude.{nat_lt, ◌⊎◌, if◌then◌else◌}
use Rattle.std.proofs.lemmas.Option.{same_Some}
use Rattle.fml_types.specs.Reach.{row, Closed, Raised, raised_one, raised_all}
use Rattle.fml_types.specs.Values.{value_in}

-- how many values are less, and how many objects are pending
abbrev pub left : ℕ → List ℕ × List ℕ → ℕ
left value s = count_by (λ (y : ℕ). nat_lt y value) s.0 + length s.1

-- the values while they are raised from a place; the objects of one list are looked at
pub record Raising (rows : List (List ℕ)) (place : ℕ) (old : List ℕ) (value : ℕ) (doing : Option ℕ) (s : List ℕ × List ℕ) : Type 0 where
  pub count : length s.0 ≡ length old
  pub rises : (i : ℕ) → value_in old i ≤ value_in s.0 i
  pub equal : (i : ℕ) → Contains s.1 i → (i < length old) × (value_in s.0 i ≡ value)
  pub doing_equal : (i : ℕ) → doing ≡ Some i → value_in s.0 i ≡ value
  pub closed : (k : ℕ) → Closed rows (value_in old) k ⊎ (k ≡ place) → Closed rows (value_in s.0) k ⊎ (Contains s.1 k ⊎ (doing ≡ Some k))
  pub least : (u : ℕ → ℕ) → ((j : ℕ) → Closed rows u j) → ((i : ℕ) → value_in old i ≤ u i) → (i : ℕ) → value_in s.0 i ≤ u i

none_some : (k : ℕ) → None ≡ Some k → ⊥
none_some k e = cc

contains_none : (x : ℕ) → Contains [] x → ⊥
contains_none x c = omega (arith, c.1)

contains_cases : (x : ℕ) (xs : List ℕ) (y : ℕ) → Contains (x ∷ xs) y → (x ≡ y) ⊎ Contains xs y
contains_cases x xs y c =
    elim (Contains-append_cases (x ∷ []) xs y c) [
      | inl one ↦ elim (Contains-push_cases [] x y one) [ inl none ↦ absurd (contains_none y none) | inr same ↦ inl same ]
      | inr later ↦ inr later
    ]

pub begun : (rows : List (List ℕ)) (place : ℕ) (old : List ℕ) (value : ℕ) → place < length old → value ≡ value_in old place → Raising rows place old value None (old, place ∷ [])
begun rows place old value within is = record {
  count = refl;
  rises = λ i. omega arith;
  equal = λ i c. elim (contains_cases place [] i c) [
    | inl same ↦ (omega (arith, same, within), ap (value_in old) (sym same) ∙ sym is)
    | inr none ↦ absurd (contains_none i none)
  ];
  doing_equal = λ i e. absurd (none_some i e);
  closed = λ k h. elim h [
    | inl before ↦ inl before
    | inr here ↦ inr (inl (0, omega arith, sym here))
  ];
  least = λ u closed low i. low i;
}

pub popped : (rows : List (List ℕ)) (place : ℕ) (old : List ℕ) (value : ℕ) (vs pending rest : List ℕ) (j : ℕ) → Raising rows place old value None (vs, pending) → pending ≡ rest ++ j ∷ [] → Raising rows place old value (Some j) (vs, rest)
popped rows place old value vs pending rest j r e =
    let was : Raising rows place old value None (vs, rest ++ j ∷ []) = subst (λ (l : List ℕ). Raising rows place old value None (vs, l)) e r in
    record {
      count = was.count;
      rises = was.rises;
      equal = λ i c. was.equal i (Contains-append_left rest (j ∷ []) i c);
      doing_equal = λ i d. ap (value_in vs) (sym (same_Some j i d)) ∙ (was.equal j (Contains-push rest j)).1;
      closed = λ k h. elim (was.closed k h) [
        | inl closed ↦ inl closed
        | inr waits ↦ elim waits [
          | inl pending ↦ elim (Contains-push_cases rest j k pending) [ inl before ↦ inr (inl before) | inr last ↦ inr (inr (ap Some last)) ]
          | inr none ↦ absurd (none_some k none)
        ]
      ];
      least = was.least;
    }

set_cases : (vs : List ℕ) (x value i : ℕ) → x < length vs → ((i ≡ x) × (value_in (set vs x value) i ≡ value)) ⊎ ((i ≡ x → ⊥) × (value_in (set vs x value) i ≡ value_in vs i))
set_cases vs x value i within =
    elim (cases_eq i x) [
      | inl same ↦ inl (same, ap (value_in (set vs x value)) same ∙ get_or-set_same vs x value 0 within)
      | inr other ↦ inr (other, get_or-set_other vs x i value 0 other)
    ]

set_rises : (vs : List ℕ) (x value : ℕ) → x < length vs → value_in vs x < value → (i : ℕ) → value_in vs i ≤ value_in (set vs x value) i
set_rises vs x value within low i =
    elim (set_cases vs x value i within) [
      | inl here ↦ let e = ap (value_in vs) here.0 in let d = here.1 in omega (arith, e, d, low)
      | inr there ↦ let d = there.1 in omega (arith, d)
    ]

set_equal : (vs : List ℕ) (x value : ℕ) → x < length vs → (i : ℕ) → value_in vs i ≡ value → value_in (set vs x value) i ≡ value
set_equal vs x value within i e = elim (set_cases vs x value i within) [ inl here ↦ here.1 | inr there ↦ there.1 ∙ e ]

raised_higher : (rows : List (List ℕ)) (place : ℕ) (old : List ℕ) (value j : ℕ) (vs pending : List ℕ) (x : ℕ) → Raising rows place old value (Some j) (vs, pending) → Contains (row rows j) x → x < length old → value_in vs x < value
    → Raising rows place old value (Some j) (set vs x value, pending ++ x ∷ [])
raised_higher rows place old value j vs pending x r mentions inside low =
    let within : x < length vs = let e = r.count in omega (arith, e, inside) in
    let rises = set_rises vs x value within low in
    record {
      count = length-set vs x value ∙ r.count;
      rises = λ i. let a = r.rises i in let b = rises i in omega (arith, a, b);
      equal = λ i c. elim (Contains-push_cases pending x i c) [
        | inl before ↦ ((r.equal i before).0, set_equal vs x value within i (r.equal i before).1)
        | inr last ↦ (omega (arith, last, inside), ap (value_in (set vs x value)) (sym last) ∙ get_or-set_same vs x value 0 within)
      ];
      doing_equal = λ i e. set_equal vs x value within i (r.doing_equal i e);
      closed = λ k h. elim (r.closed k h) [
        | inl closed ↦ elim (set_cases vs x value k within) [
          | inl here ↦ inr (inl (subst (λ (n : ℕ). Contains (pending ++ x ∷ []) n) (sym here.0) (Contains-push pending x)))
          | inr there ↦ inl (λ i c. let a = closed i c in let b = rises i in let d = there.1 in omega (arith, a, b, d))
        ]
        | inr waits ↦ elim waits [
          | inl before ↦ inr (inl (Contains-append_left pending (x ∷ []) k before))
          | inr doing ↦ inr (inr doing)
        ]
      ];
      least = λ u closed under i. elim (set_cases vs x value i within) [
        | inl here ↦
            let a = r.least u closed under j in
            let b = closed j x mentions in
            let c = r.doing_equal j refl in
            let d = here.1 in
            let e = ap u here.0 in
            omega (arith, a, b, c, d, e)
        | inr there ↦ let a = r.least u closed under i in let d = there.1 in omega (arith, a, d)
      ];
    }

raised_is : (value x : ℕ) (s : List ℕ × List ℕ) → value_in s.0 x < value → raised_one value x s ≡ (set s.0 x value, s.1 ++ x ∷ [])
raised_is value x s h = ap (λ (b : Bool). if b then (set s.0 x value, s.1 ++ x ∷ []) else s) (lt-ltb (value_in s.0 x) value h)

kept_is : (value x : ℕ) (s : List ℕ × List ℕ) → value ≤ value_in s.0 x → raised_one value x s ≡ s
kept_is value x s h = ap (λ (b : Bool). if b then (set s.0 x value, s.1 ++ x ∷ []) else s) (le-ltb (value_in s.0 x) value h)

one_raised : (rows : List (List ℕ)) (place : ℕ) (old : List ℕ) (value j : ℕ) (s : List ℕ × List ℕ) (x : ℕ) → Raising rows place old value (Some j) s → Contains (row rows j) x → x < length old
    → Raising rows place old value (Some j) (raised_one value x s)
one_raised rows place old value j s x r mentions inside =
    elim (cases_lt (value_in s.0 x) value) [
      | inl low ↦ subst (λ (t : List ℕ × List ℕ). Raising rows place old value (Some j) t) (sym (raised_is value x s low)) (raised_higher rows place old value j s.0 s.1 x r mentions inside low)
      | inr high ↦ subst (λ (t : List ℕ × List ℕ). Raising rows place old value (Some j) t) (sym (kept_is value x s high)) r
    ]

one_rises : (value x : ℕ) (s : List ℕ × List ℕ) → x < length s.0 → (i : ℕ) → value_in s.0 i ≤ value_in (raised_one value x s).0 i
one_rises value x s within i =
    elim (cases_lt (value_in s.0 x) value) [
      | inl low ↦ subst (λ (t : List ℕ × List ℕ). value_in s.0 i ≤ value_in t.0 i) (sym (raised_is value x s low)) (set_rises s.0 x value within low i)
      | inr high ↦ subst (λ (t : List ℕ × List ℕ). value_in s.0 i ≤ value_in t.0 i) (sym (kept_is value x s high)) (omega arith)
    ]

one_there : (value x : ℕ) (s : List ℕ × List ℕ) → x < length s.0 → value ≤ value_in (raised_one value x s).0 x
one_there value x s within =
    elim (cases_lt (value_in s.0 x) value) [
      | inl low ↦ subst (λ (t : List ℕ × List ℕ). value ≤ value_in t.0 x) (sym (raised_is value x s low)) (let e = get_or-set_same s.0 x value 0 within in omega (arith, e))
      | inr high ↦ subst (λ (t : List ℕ × List ℕ). value ≤ value_in t.0 x) (sym (kept_is value x s high)) high
    ]

one_length : (value x : ℕ) (s : List ℕ × List ℕ) → length (raised_one value x s).0 ≡ length s.0
one_length value x s =
    elim (cases_lt (value_in s.0 x) value) [
      | inl low ↦ ap (λ (t : List ℕ × List ℕ). length t.0) (raised_is value x s low) ∙ length-set s.0 x value
      | inr high ↦ ap (λ (t : List ℕ × List ℕ). length t.0) (kept_is value x s high)
    ]

one_left : (value x : ℕ) (s : List ℕ × List ℕ) → x < length s.0 → left value (raised_one value x s) ≡ left value s
one_left value x s within =
    elim (cases_lt (value_in s.0 x) value) [
      | inl low ↦
          let f : ℕ → ℕ = λ y. if nat_lt y value then 1 else 0 in
          let less : sum_by f (set s.0 x value) + f (value_in s.0 x) ≡ sum_by f s.0 + f value = sum_by-set f s.0 x value 0 within in
          let was : f (value_in s.0 x) ≡ 1 = ap (λ (b : Bool). if b then 1 else 0) (lt-ltb (value_in s.0 x) value low) in
          let now : f value ≡ 0 = ap (λ (b : Bool). if b then 1 else 0) (le-ltb value value (omega arith)) in
          let more = length-append s.1 (x ∷ []) in
          ap (left value) (raised_is value x s low) ∙ omega (arith, less, was, now, more)
      | inr high ↦ ap (left value) (kept_is value x s high)
    ]

head_in : (x : ℕ) (xs : List ℕ) → Contains (x ∷ xs) x
head_in x xs = (0, omega arith, refl)

tail_in : (x : ℕ) (xs : List ℕ) (y : ℕ) → Contains xs y → Contains (x ∷ xs) y
tail_in x xs y c = Contains-append_right (x ∷ []) xs y c

all_raised : (rows : List (List ℕ)) (place : ℕ) (old : List ℕ) (value j : ℕ) (xs : List ℕ) (s : List ℕ × List ℕ) → Raising rows place old value (Some j) s → ((x : ℕ) → Contains xs x → Contains (row rows j) x) → ((x : ℕ) → Contains xs x → x < length old)
    → Raising rows place old value (Some j) (raised_all value xs s)
all_raised rows place old value j [] s r mentions inside = r
all_raised rows place old value j (x ∷ xs) s r mentions inside =
    all_raised rows place old value j xs (raised_one value x s) (one_raised rows place old value j s x r (mentions x (head_in x xs)) (inside x (head_in x xs))) (λ y c. mentions y (tail_in x xs y c)) (λ y c. inside y (tail_in x xs y c))

all_rise : (value : ℕ) (xs : List ℕ) (s : List ℕ × List ℕ) → ((x : ℕ) → Contains xs x → x < length s.0) → (i : ℕ) → value_in s.0 i ≤ value_in (raised_all value xs s).0 i
all_rise value [] s inside i = omega arith
all_rise value (x ∷ xs) s inside i =
    let now = one_rises value x s (inside x (head_in x xs)) i in
    let later = all_rise value xs (raised_one value x s) (λ y c. let e = one_length value x s in let h = inside y (tail_in x xs y c) in omega (arith, e, h)) i in
    omega (arith, now, later)

all_there : (value : ℕ) (xs : List ℕ) (s : List ℕ × List ℕ) → ((x : ℕ) → Contains xs x → x < length s.0) → (y : ℕ) → Contains xs y → value ≤ value_in (raised_all value xs s).0 y
all_there value [] s inside y c = absurd (contains_none y c)
all_there value (x ∷ xs) s inside y c =
    let rest = λ (z : ℕ) (d : Contains xs z). let e = one_length value x s in let h = inside z (tail_in x xs z d) in let k : z < length (raised_one value x s).0 = omega (arith, e, h) in k in
    elim (contains_cases x xs y c) [
      | inl now ↦
          let there = one_there value x s (inside x (head_in x xs)) in
          let later = all_rise value xs (raised_one value x s) rest x in
          subst (λ (z : ℕ). value ≤ value_in (raised_all value xs (raised_one value x s)).0 z) now (omega (arith, there, later))
      | inr later ↦ all_there value xs (raised_one value x s) rest y later
    ]

pub all_left : (value : ℕ) (xs : List ℕ) (s : List ℕ × List ℕ) → ((x : ℕ) → Contains xs x → x < length s.0) → left value (raised_all value xs s) ≡ left value s
all_left value [] s inside = refl
all_left value (x ∷ xs) s inside =
    all_left value xs (raised_one value x s) (λ y c. let e = one_length value x s in let h = inside y (tail_in x xs y c) in omega (arith, e, h)) ∙ one_left value x s (inside x (head_in x xs))

finished : (rows : List (List ℕ)) (place : ℕ) (old : List ℕ) (value j : ℕ) (s : List ℕ × List ℕ) → Raising rows place old value (Some j) s → ((x : ℕ) → Contains (row rows j) x → value ≤ value_in s.0 x) → Raising rows place old value None s
finished rows place old value j s r there =
    record {
      count = r.count;
      rises = r.rises;
      equal = r.equal;
      doing_equal = λ i e. absurd (none_some i e);
      closed = λ k h. elim (r.closed k h) [
        | inl closed ↦ inl closed
        | inr waits ↦ elim waits [
          | inl before ↦ inr (inl before)
          | inr doing ↦ inl (λ i c.
              let same : j ≡ k = same_Some j k doing in
              let high = there i (subst (λ (n : ℕ). Contains (row rows n) i) (sym same) c) in
              let e = r.doing_equal k doing in
              omega (arith, high, e))
        ]
      ];
      least = r.least;
    }

pub looked_at : (rows : List (List ℕ)) (place : ℕ) (old : List ℕ) (value : ℕ) (vs pending rest : List ℕ) (j : ℕ) (after : List ℕ × List ℕ) → ((k x : ℕ) → Contains (row rows k) x → x < length old) → Raising rows place old value None (vs, pending) → pending ≡ rest ++ j ∷ []
    → after ≡ raised_all value (row rows j) (vs, rest) → Raising rows place old value None after
looked_at rows place old value vs pending rest j after inside r e made =
    let begin = popped rows place old value vs pending rest j r e in
    let all = all_raised rows place old value j (row rows j) (vs, rest) begin (λ x c. c) (λ x c. inside j x c) in
    let there = all_there value (row rows j) (vs, rest) (λ x c. let d = begin.count in let h = inside j x c in omega (arith, d, h)) in
    subst (λ (s : List ℕ × List ℕ). Raising rows place old value None s) (sym made) (finished rows place old value j (raised_all value (row rows j) (vs, rest)) all there)

pub ended : (rows : List (List ℕ)) (place : ℕ) (old : List ℕ) (value : ℕ) (vs pending : List ℕ) → Raising rows place old value None (vs, pending) → pending ≡ [] → Raised rows place old vs
ended rows place old value vs pending r none =
    let was : Raising rows place old value None (vs, []) = subst (λ (l : List ℕ). Raising rows place old value None (vs, l)) none r in
    let closed : (k : ℕ) → Closed rows (value_in old) k ⊎ (k ≡ place) → Closed rows (value_in vs) k = λ k h. elim (was.closed k h) [
      | inl closed ↦ closed
      | inr waits ↦ elim waits [ inl before ↦ absurd (contains_none k before) | inr doing ↦ absurd (none_some k doing) ]
    ] in
    record {
      count = was.count;
      rises = was.rises;
      here = closed place (inr refl);
      kept = λ j h. closed j (inl h);
      least = was.least;
    }

pair_same : (vs pending : List ℕ) (s : List ℕ × List ℕ) → vs ≡ s.0 → pending ≡ s.1 → (vs, pending) ≡ s
pair_same vs pending s p q = λ i. (p i, q i)

-- ---- each turn of the loop

pub next_within : (rows : List (List ℕ)) (place : ℕ) (old : List ℕ) (value : ℕ) (vs pending rest : List ℕ) (j : ℕ) → Raising rows place old value None (vs, pending) → pending ≡ rest ++ j ∷ [] → j < length old
next_within rows place old value vs pending rest j r e = (r.equal j (subst (λ (l : List ℕ). Contains l j) (sym e) (Contains-push rest j))).0

pub row_within : (rows : List (List ℕ)) (n : ℕ) (xs : List ℕ) (j : ℕ) → ((k x : ℕ) → Contains (row rows k) x → x < n) → xs ≡ row rows j → All (λ i. i < n) xs
row_within rows n xs j inside e = λ k d h. inside j (get_or xs k d) (subst (λ (l : List ℕ). Contains l (get_or xs k d)) e (Contains-get_or xs k d h))

pub turn : (rows : List (List ℕ)) (place : ℕ) (old : List ℕ) (value : ℕ) (vs pending rest : List ℕ) (j : ℕ) (xs next_vs next_pending : List ℕ) → ((k x : ℕ) → Contains (row rows k) x → x < length old) → Raising rows place old value None (vs, pending)
    → pending ≡ rest ++ j ∷ [] → xs ≡ row rows j → next_vs ≡ (raised_all value xs (vs, rest)).0 → next_pending ≡ (raised_all value xs (vs, rest)).1 → Raising rows place old value None (next_vs, next_pending)
turn rows place old value vs pending rest j xs next_vs next_pending inside r e is made waits =
    let after = pair_same next_vs next_pending (raised_all value xs (vs, rest)) made waits ∙ ap (λ (l : List ℕ). raised_all value l (vs, rest)) is in
    looked_at rows place old value vs pending rest j (next_vs, next_pending) inside r e after

pub less_left : (rows : List (List ℕ)) (place : ℕ) (old : List ℕ) (value : ℕ) (vs pending rest : List ℕ) (j : ℕ) (xs next_vs next_pending : List ℕ) → ((k x : ℕ) → Contains (row rows k) x → x < length old) → Raising rows place old value None (vs, pending)
    → pending ≡ rest ++ j ∷ [] → xs ≡ row rows j → next_vs ≡ (raised_all value xs (vs, rest)).0 → next_pending ≡ (raised_all value xs (vs, rest)).1 → left value (next_vs, next_pending) < left value (vs, pending)
less_left rows place old value vs pending rest j xs next_vs next_pending inside r e is made waits =
    let after = pair_same next_vs next_pending (raised_all value xs (vs, rest)) made waits ∙ ap (λ (l : List ℕ). raised_all value l (vs, rest)) is in
    let same = ap (left value) after ∙ all_left value (row rows j) (vs, rest) (λ x c. let d = r.count in let h = inside j x c in omega (arith, d, h)) in
    let fewer : length pending ≡ length rest + 1 = ap length e ∙ length-append rest (j ∷ []) in
    omega (arith, same, fewer)
