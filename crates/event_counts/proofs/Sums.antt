-- The sums of the events that belong to the entries of a list, as time goes on and events come.
use Rattle.std.proofs.Common.{◌≡◌, inl, inr, ℕ, zero, suc, ◌+◌, ◌-◌, ◌*◌, ◌/◌, ◌%◌, ◌<◌, ◌≤◌, ◌==◌, ◌&&◌, Bool, true, false, cond, List, [], ◌∷◌, ◌++◌, length, get_or, take, map, refl, sym, ap, ap₂, ◌∙◌, arith}
use Rattle.std.proofs.lemmas.Bool.Decides.{nat_tests}
use Rattle.std.proofs.lemmas.Bool.{cases_lt}
use Rattle.std.proofs.lemmas.List.{get_or-take, get_or_append_left, get_or-append_right, get_or-replicate, length-replicate}
use Rattle.std.proofs.lemmas.List.Elements.{filter-append}
use Rattle.std.proofs.lemmas.List.Sums.{sum_by-append}
use Rattle.std.proofs.lemmas.Nat.{div-add-mod', le-div}
use Rattle.std.specs.Prelude.{replicate, filter, sum_by}
use Rattle.std.specs.List.{AllByRecursion, range_with_len}
use Rattle.event_counts.specs.declared.interval.Interval.{Interval}
use Rattle.event_counts.specs.declared.interval.Interval.TheVariants.{Hours, Days, Weeks}
use Rattle.event_counts.specs.History.{Event, has_name, belongs, count_of, entry_sum, sums}
use Rattle.event_counts.specs.Intervals.{seconds, entry_count, turns}
use Rattle.event_counts.specs.Lists.{capped, turned, raised}
use Rattle.event_counts.proofs.Soundness.{length-raised}
use Rattle.event_counts.proofs.Turning.{length_of_turned}

-- each entry of the list is the sum of the events that belong to it
pub record HasSums (i : Interval) (name : List ℕ) (moment : ℕ) (es : List Event) (xs : List ℕ) : Type 0 where
  pub full : length xs ≡ entry_count i
  pub each : (k : ℕ) → k < entry_count i → get_or xs k 0 ≡ entry_sum i name moment es k

-- ---- the list of all sums

values_same : (f : ℕ → ℕ) (xs : List ℕ) (p n : ℕ) → length xs ≡ n → ((j q : ℕ) → j < n → q ≡ p + j → get_or xs j 0 ≡ f q) → xs ≡ map f (range_with_len p n)
values_same f [] p zero full each = refl
values_same f [] p (suc n) full each = absurd (omega (arith, full))
values_same f (x ∷ xs) p zero full each = absurd (omega (arith, full))
values_same f (x ∷ xs) p (suc n) full each =
    let head : x ≡ f p = each 0 p (omega arith) (omega arith) in
    let tail : xs ≡ map f (range_with_len (p + 1) n) = values_same f xs (p + 1) n (omega (arith, full)) (λ j q less is. each (suc j) q (omega (arith, less)) (omega (arith, is))) in
    λ i. head i ∷ tail i

pub sums_same : (i : Interval) (name : List ℕ) (moment : ℕ) (es : List Event) (xs : List ℕ) → HasSums i name moment es xs → xs ≡ sums i name moment es
sums_same i name moment es xs has =
    values_same (entry_sum i name moment es) xs 0 (entry_count i) has.full
    (λ j q less is. has.each j less ∙ ap (entry_sum i name moment es) (let same : j ≡ q = omega (arith, is) in same))

-- ---- how far a list turns

div_rises : (a b k : ℕ) → 0 < k → a ≤ b → a / k ≤ b / k
div_rises a b k some most = let e : a / k * k + a % k ≡ a = div-add-mod' a k in le-div (a / k) b k some (omega (arith, e, most))

some_seconds : (i : Interval) → 0 < seconds i
some_seconds Hours = omega arith
some_seconds Days = omega arith
some_seconds Weeks = omega arith

pub turns_add : (i : Interval) (s t m : ℕ) → s ≤ t → t ≤ m → turns i s m ≡ turns i s t + turns i t m
unfolding turns
turns_add i s t m first second =
    let below : s / seconds i ≤ t / seconds i = div_rises s t (seconds i) (some_seconds i) first in
    let above : t / seconds i ≤ m / seconds i = div_rises t m (seconds i) (some_seconds i) second in
    omega (arith, below, above)

pub no_turns : (i : Interval) (m : ℕ) → turns i m m ≡ 0
unfolding turns
no_turns i m = omega arith

-- ---- the events that belong

-- the events of the name are not after the moment
abbrev pub AreBefore : List ℕ → ℕ → List Event → Type 0
AreBefore name moment es = AllByRecursion (λ e. has_name name e ≡ true → e.moment ≤ moment) es

same_filter : (p q : Event → Bool) (es : List Event) → AllByRecursion (λ e. p e ≡ q e) es → filter p es ≡ filter q es
same_filter p q [] same = refl
same_filter p q (e ∷ es) same = ap₂ (λ (b : Bool) (l : List Event). cond b (e ∷ l) l) same.0 (same_filter p q es same.1)

no_filter : (p : Event → Bool) (es : List Event) → AllByRecursion (λ e. p e ≡ false) es → filter p es ≡ []
no_filter p [] none = refl
no_filter p (e ∷ es) none = ap₂ (λ (b : Bool) (l : List Event). cond b (e ∷ l) l) none.0 (no_filter p es none.1)

same_tests : (x d k : ℕ) → d ≤ k → (x + d == k) ≡ (x == k - d)
same_tests x d k most = grind (arith, nat_tests)

apart : (x d k : ℕ) → k < d → (x + d == k) ≡ false
apart x d k less = grind (arith, nat_tests)

apart_zero : (k : ℕ) → 0 < k → (0 == k) ≡ false
apart_zero k some = grind (arith, nat_tests)

shifted : (i : Interval) (name : List ℕ) (t m k : ℕ) (e : Event) (b : Bool) → has_name name e ≡ b → (has_name name e ≡ true → e.moment ≤ t) → t ≤ m → turns i t m ≤ k
    → (b && turns i e.moment m == k) ≡ (b && turns i e.moment t == k - turns i t m)
shifted i name t m k e false is before later most = refl
shifted i name t m k e true is before later most =
    ap (λ n. n == k) (turns_add i e.moment t m (before is) later) ∙ same_tests (turns i e.moment t) (turns i t m) k most

belongs_shifted : (i : Interval) (name : List ℕ) (t m k : ℕ) (e : Event) → (has_name name e ≡ true → e.moment ≤ t) → t ≤ m → turns i t m ≤ k
    → belongs i name m k e ≡ belongs i name t (k - turns i t m) e
belongs_shifted i name t m k e before later most = shifted i name t m k e (has_name name e) refl before later most

all_shifted : (i : Interval) (name : List ℕ) (t m k : ℕ) (es : List Event) → AreBefore name t es → t ≤ m → turns i t m ≤ k
    → AllByRecursion (λ e. belongs i name m k e ≡ belongs i name t (k - turns i t m) e) es
all_shifted i name t m k [] before later most = tt
all_shifted i name t m k (e ∷ es) before later most = (belongs_shifted i name t m k e before.0 later most, all_shifted i name t m k es before.1 later most)

turned_in : (i : Interval) (name : List ℕ) (t m k : ℕ) (e : Event) (b : Bool) → has_name name e ≡ b → (has_name name e ≡ true → e.moment ≤ t) → t ≤ m → k < turns i t m
    → (b && turns i e.moment m == k) ≡ false
turned_in i name t m k e false is before later less = refl
turned_in i name t m k e true is before later less =
    ap (λ n. n == k) (turns_add i e.moment t m (before is) later) ∙ apart (turns i e.moment t) (turns i t m) k less

none_turned_in : (i : Interval) (name : List ℕ) (t m k : ℕ) (es : List Event) → AreBefore name t es → t ≤ m → k < turns i t m → AllByRecursion (λ e. belongs i name m k e ≡ false) es
none_turned_in i name t m k [] before later less = tt
none_turned_in i name t m k (e ∷ es) before later less = (turned_in i name t m k e (has_name name e) refl before.0 later less, none_turned_in i name t m k es before.1 later less)

-- ---- time goes on

shifted_sum : (i : Interval) (name : List ℕ) (t m k : ℕ) (es : List Event) → AreBefore name t es → t ≤ m → turns i t m ≤ k → entry_sum i name m es k ≡ entry_sum i name t es (k - turns i t m)
shifted_sum i name t m k es before later most =
    ap (λ (l : List Event). capped (sum_by count_of l)) (same_filter (belongs i name m k) (belongs i name t (k - turns i t m)) es (all_shifted i name t m k es before later most))

new_sum : (i : Interval) (name : List ℕ) (t m k : ℕ) (es : List Event) → AreBefore name t es → t ≤ m → k < turns i t m → entry_sum i name m es k ≡ 0
new_sum i name t m k es before later less =
    ap (λ (l : List Event). capped (sum_by count_of l)) (no_filter (belongs i name m k) es (none_turned_in i name t m k es before later less))

turned_entry : (i : Interval) (name : List ℕ) (t m : ℕ) (es : List Event) (xs : List ℕ) (d k : ℕ) → d ≡ turns i t m → AreBefore name t es → t ≤ m → HasSums i name t es xs → k < entry_count i
    → get_or (turned d xs) k 0 ≡ entry_sum i name m es k
unfolding turned
turned_entry i name t m es xs d k is before later has less =
    let within : k < length xs = omega (arith, less, has.full) in
    let zeros : List ℕ = replicate d 0 in
    let taken : get_or (take (length xs) (zeros ++ xs)) k 0 ≡ get_or (zeros ++ xs) k 0 = get_or-take (length xs) (zeros ++ xs) k 0 within in
    let len : length zeros ≡ d = length-replicate {A = ℕ} d 0 in
    elim (cases_lt k d) [
      | inl new ↦
          taken ∙ get_or_append_left zeros xs 0 k (omega (arith, new, len)) ∙ get_or-replicate {A = ℕ} d k 0 0 new
          ∙ sym (new_sum i name t m k es before later (omega (arith, new, is)))
      | inr old ↦
          let back : get_or xs (k - d) 0 ≡ entry_sum i name t es (k - d) = has.each (k - d) (omega (arith, less)) in
          let same : k - d ≡ k - turns i t m = ap (λ n. k - n) is in
          taken ∙ get_or-append_right zeros xs d k 0 len old ∙ back ∙ ap (entry_sum i name t es) same
          ∙ sym (shifted_sum i name t m k es before later (omega (arith, old, is)))
    ]

pub sums-turned : (i : Interval) (name : List ℕ) (t m : ℕ) (es : List Event) (xs : List ℕ) → AreBefore name t es → t ≤ m → HasSums i name t es xs → HasSums i name m es (turned (turns i t m) xs)
sums-turned i name t m es xs before later has = record {
  full = length_of_turned (turns i t m) xs ∙ has.full;
  each = λ k less. turned_entry i name t m es xs (turns i t m) k refl before later has less;
}

-- ---- an event comes

-- the sum with one more event
added : (i : Interval) (name : List ℕ) (m k : ℕ) (es : List Event) (e : Event)
    → entry_sum i name m (es ++ e ∷ []) k ≡ capped (sum_by count_of (filter (belongs i name m k) es) + sum_by count_of (filter (belongs i name m k) (e ∷ [])))
added i name m k es e =
    ap (λ (l : List Event). capped (sum_by count_of l)) (filter-append (belongs i name m k) es (e ∷ []))
    ∙ ap capped (sum_by-append count_of (filter (belongs i name m k) es) (filter (belongs i name m k) (e ∷ [])))

-- an event that belongs to no entry
left_out : (i : Interval) (name : List ℕ) (m k : ℕ) (es : List Event) (e : Event) → belongs i name m k e ≡ false → entry_sum i name m (es ++ e ∷ []) k ≡ entry_sum i name m es k
left_out i name m k es e out =
    let none : sum_by count_of (filter (belongs i name m k) (e ∷ [])) ≡ 0 = ap (λ b. sum_by count_of (cond b (e ∷ []) [])) out in
    added i name m k es e ∙ ap capped (let same : sum_by count_of (filter (belongs i name m k) es) + sum_by count_of (filter (belongs i name m k) (e ∷ [])) ≡ sum_by count_of (filter (belongs i name m k) es) = omega (arith, none) in same)

taken_in : (i : Interval) (name : List ℕ) (m k : ℕ) (es : List Event) (e : Event) → belongs i name m k e ≡ true → entry_sum i name m (es ++ e ∷ []) k ≡ capped (entry_sum i name m es k + e.count)
taken_in i name m k es e taken =
    let one : sum_by count_of (filter (belongs i name m k) (e ∷ [])) ≡ 0 + e.count = ap (λ b. sum_by count_of (cond b (e ∷ []) [])) taken in
    added i name m k es e ∙ (let same : capped (sum_by count_of (filter (belongs i name m k) es) + sum_by count_of (filter (belongs i name m k) (e ∷ []))) ≡ capped (entry_sum i name m es k + e.count) = omega (arith, one) in same)

of_another : (i : Interval) (name : List ℕ) (m k : ℕ) (e : Event) → has_name name e ≡ false → belongs i name m k e ≡ false
of_another i name m k e other = ap (λ b. b && turns i e.moment m == k) other

now_test : (i : Interval) (m k : ℕ) (e : Event) → e.moment ≡ m → (turns i e.moment m == k) ≡ (0 == k)
now_test i m k e is = ap (λ s. turns i s m == k) is ∙ ap (λ n. n == k) (no_turns i m)

of_now : (i : Interval) (name : List ℕ) (m k : ℕ) (e : Event) → has_name name e ≡ true → e.moment ≡ m → belongs i name m k e ≡ (0 == k)
of_now i name m k e named is = ap (λ b. b && turns i e.moment m == k) named ∙ now_test i m k e is

raised_entry : (i : Interval) (name : List ℕ) (m : ℕ) (es : List Event) (e : Event) (xs : List ℕ) (k : ℕ) → has_name name e ≡ true → e.moment ≡ m → HasSums i name m es xs → k < entry_count i
    → get_or (raised e.count xs) k 0 ≡ entry_sum i name m (es ++ e ∷ []) k
raised_entry i name m es e [] k named is has less = absurd (omega (arith, less, has.full))
raised_entry i name m es e (x ∷ xs) zero named is has less =
    let here : x ≡ entry_sum i name m es 0 = has.each 0 less in
    ap (λ n. capped (n + e.count)) here ∙ sym (taken_in i name m 0 es e (of_now i name m 0 e named is))
raised_entry i name m es e (x ∷ xs) (suc k) named is has less =
    has.each (suc k) less ∙ sym (left_out i name m (suc k) es e (of_now i name m (suc k) e named is ∙ apart_zero (suc k) (omega arith)))

pub sums-raised : (i : Interval) (name : List ℕ) (m : ℕ) (es : List Event) (e : Event) (xs : List ℕ) → has_name name e ≡ true → e.moment ≡ m → HasSums i name m es xs → HasSums i name m (es ++ e ∷ []) (raised e.count xs)
sums-raised i name m es e xs named is has = record {
  full = length-raised e.count xs ∙ has.full;
  each = λ k less. raised_entry i name m es e xs k named is has less;
}

pub sums-beside : (i : Interval) (name : List ℕ) (m : ℕ) (es : List Event) (e : Event) (xs : List ℕ) → has_name name e ≡ false → HasSums i name m es xs → HasSums i name m (es ++ e ∷ []) xs
sums-beside i name m es e xs other has = record {
  full = has.full;
  each = λ k less. has.each k less ∙ sym (left_out i name m k es e (of_another i name m k e other));
}

-- no event has the name
all_others : (i : Interval) (name : List ℕ) (m k : ℕ) (es : List Event) → AllByRecursion (λ e. has_name name e ≡ false) es → AllByRecursion (λ e. belongs i name m k e ≡ false) es
all_others i name m k [] none = tt
all_others i name m k (e ∷ es) none = (of_another i name m k e none.0, all_others i name m k es none.1)

no_sum : (i : Interval) (name : List ℕ) (m k : ℕ) (es : List Event) → AllByRecursion (λ e. has_name name e ≡ false) es → entry_sum i name m es k ≡ 0
no_sum i name m k es none = ap (λ (l : List Event). capped (sum_by count_of l)) (no_filter (belongs i name m k) es (all_others i name m k es none))

pub sums-zeros : (i : Interval) (name : List ℕ) (m : ℕ) (es : List Event) → AllByRecursion (λ e. has_name name e ≡ false) es → HasSums i name m es (replicate (entry_count i) 0)
sums-zeros i name m es none = record {
  full = length-replicate {A = ℕ} (entry_count i) 0;
  each = λ k less. get_or-replicate (entry_count i) k 0 0 less ∙ sym (no_sum i name m k es none);
}
