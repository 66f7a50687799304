use Rattle.std.proofs.Common.{◌≡◌, ℕ, zero, suc, ◌+◌, ◌<◌, ◌≤◌, List, [], ◌∷◌, ◌++◌, length, get_or, take, drop, inl, inr, refl, sym, ap, ◌∙◌, subst, arith}
use Rattle.std.proofs.lemmas.Bool.{cases_lt}
use Rattle.std.proofs.lemmas.List.{take-append-le, take_all}
use Rattle.std.specs.List.{Contains}
use Rattle.fml_types.specs.Reach.{Closed, Raised}
use Rattle.fml_types.specs.Values.{value_in}
use Rattle.fml_types.proofs.Mentioned.{mention_within}
use Rattle.fml_types.proofs.Reaching.{reached_found}
use Rattle.fml_types.proofs.reach.reached.Goals as goal

same_at : (xs : List ℕ) (k d e : ℕ) → k < length xs → get_or xs k d ≡ get_or xs k e
same_at [] k d e h = absurd (omega arith)
same_at (x ∷ xs) zero d e h = refl
same_at (x ∷ xs) (suc k) d e h = same_at xs k d e (omega arith)

-- what a slice of a whole vector leaves there
whole_slice : (new old : List ℕ) (len : ℕ) → length new ≡ length old → len ≡ length old → take len (new ++ drop (length new) old) ≡ new
whole_slice new old len e f = take-append-le len new (drop (length new) old) (omega (arith, e, f)) ∙ take_all len new (omega (arith, e, f))

closed_next : (rows : List (List ℕ)) (places old new : List ℕ) (i : ℕ) → Raised rows (get_or places i 0) old new → ((k : ℕ) → k < i → Closed rows (value_in old) (get_or places k 0)) → (k : ℕ) → k < i + 1 → Closed rows (value_in new) (get_or places k 0)
closed_next rows places old new i raised so_far k h =
    elim (cases_lt k i) [
      | inl before ↦ raised.kept (get_or places k 0) (so_far k before)
      | inr last ↦ let same : i ≡ k = omega arith in subst (λ (m : ℕ). Closed rows (value_in new) (get_or places m 0)) same raised.here
    ]

closed_there : (rows : List (List ℕ)) (places rs : List ℕ) (n : ℕ) → length places ≤ n → ((k : ℕ) → k < n → Closed rows (value_in rs) (get_or places k 0)) → (j : ℕ) → Contains places j → Closed rows (value_in rs) j
closed_there rows places rs n all closed j c =
    let low : c.0 < n = omega (arith, c.1, all) in
    subst (λ (m : ℕ). Closed rows (value_in rs) m) (same_at places c.0 0 j c.1 ∙ c.2) (closed c.0 low)

pub raise_from-requires-clause-within : goal.raise_from-requires-clause-within
raise_from-requires-clause-within c j i d =
    let low = mention_within c.args.graph.now i j (c.requires.mentioned.only j i d) in
    omega (arith, low, c.requires.mentioned.count)

pub loop-place-preserved : goal.loop-place-preserved
loop-place-preserved c =
    let rows = c.args.mentioned_by.now in
    let places = c.deref-place-items.result.now in
    let i = c.loop-place.place-index in
    let vs = c.args.values.now in
    let old = c.loop-place.reached.items in
    let new = c.raise_from.new.values in
    let so_far = c.loop-place.invariant in
    let raised : Raised rows (get_or places i 0) old new = subst (λ (l : List ℕ). Raised rows (get_or places i 0) l new) c.deref_mut.ensures.value c.in_ok-raise_from.ensures in
    let whole = whole_slice new old c.loop-place.reached.len raised.count (omega (arith, c.loop-place.reached.ok.0)) in
    record {
      count = ap length whole ∙ raised.count ∙ so_far.count;
      rises = λ k. subst (λ (l : List ℕ). value_in vs k ≤ value_in l k) (sym whole) (let a = so_far.rises k in let b = raised.rises k in omega (arith, a, b));
      closed = λ k h. subst (λ (l : List ℕ). Closed rows (value_in l) (get_or places k 0)) (sym whole) (closed_next rows places old new i raised so_far.closed k h);
      least = λ u closed low k. subst (λ (l : List ℕ). value_in l k ≤ u k) (sym whole) (raised.least u closed (so_far.least u closed low) k);
    }

pub returns : goal.returns
returns c =
    let places = c.deref-place-items.result.now in
    let so_far = c.loop-place.invariant in
    reached_found c.args.graph.now c.args.mentioned_by.now c.args.values.now c.loop-place.reached.items c.requires.mentioned c.requires.count so_far.count so_far.rises
    (λ j h. closed_there c.args.mentioned_by.now places c.loop-place.reached.items c.loop-place.place-index c.loop-place-test.false so_far.closed j
    (subst (λ (l : List ℕ). Contains l j) (sym c.deref-place-items.ensures.value) (c.in_ok-places.ensures.each j (omega (arith, h, c.requires.count)))))
    so_far.least
