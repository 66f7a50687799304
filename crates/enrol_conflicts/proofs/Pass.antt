-- One pass in rank order: what holds after k wishes, its step and its end.
use Rattle.std.proofs.Common.{◌≡◌, ◌≢◌, ◌<◌, ◌≤◌, ◌+◌, ◌⊎◌, ℕ, zero, suc, inl, inr, List, [], ◌∷◌, length, get_or, set, map, replicate, slice_get, Some, unwrap_or, Bool, true, false, not, ◌&&◌, ◌||◌, IsPermutation, IsSorted, is_lt, refl, sym, ap, ap₂, ◌∙◌, arith, true≢false, ⊎_elim, length-set}
use Rattle.std.specs.List.{range_with_len}
use Rattle.std.specs.Cmp.Lexicographic.{options_total}
use Rattle.std.specs.Option.{option_cmp}
use Rattle.std.proofs.lemmas.List.{get_or-set_other, get_or-set_same}
use Rattle.std.proofs.lemmas.List.Sorted.{ranks_by, sorted_far}
use Rattle.std.proofs.lemmas.Option.{slice_get_within}
use Rattle.enrol_conflicts.specs.declared.candidate.Candidate.{Candidate}
use Rattle.enrol_conflicts.specs.Settlement.{rank_cmp, is_before, clashes, any_granted, is_blocked, Settled, HaveOwnSlugs}
use Rattle.enrol_conflicts.specs.Ranking.{place_cmp}
use Rattle.enrol_conflicts.proofs.Ranks.{rank_cmp_total, is_before-other}
use Rattle.enrol_conflicts.proofs.Places.{places_all, places_apart}

and_same : (g a b : Bool) → (g ≡ true → a ≡ b) → (g && a) ≡ (g && b)
and_same true a b h = h refl
and_same false a b h = refl

and_idle : (g b a : Bool) → a ≡ false → (b && a) ≡ (g && a)
and_idle true true a h = refl
and_idle true false a h = sym h
and_idle false true a h = h
and_idle false false a h = refl

module _ {X : Type 0} where
  -- two tests that agree on the granted
  any_granted-same : (p q : X → Bool) (xs : List X) (gs : List Bool) → ((j : ℕ) (v : X) → slice_get xs j ≡ Some v → get_or gs j false ≡ true → p v ≡ q v) → any_granted p xs gs ≡ any_granted q xs gs
  any_granted-same p q [] gs h = refl
  any_granted-same p q (x ∷ xs) [] h = refl
  any_granted-same p q (x ∷ xs) (g ∷ gs) h = ap₂ (λ a b. a || b) (and_same g (p x) (q x) (h 0 x refl)) (any_granted-same p q xs gs (λ j v a b. h (suc j) v a b))

  -- an answer on a wish that fails the test
  any_granted-set : (p : X → Bool) (xs : List X) (gs : List Bool) (r : ℕ) (b : Bool) (w : X) → slice_get xs r ≡ Some w → p w ≡ false → any_granted p xs (set gs r b) ≡ any_granted p xs gs
  any_granted-set p [] gs r b w h e = refl
  any_granted-set p (x ∷ xs) [] r b w h e = refl
  any_granted-set p (x ∷ xs) (g ∷ gs) zero b w h e = ap (λ a. a || any_granted p xs gs) (and_idle g b (p x) (ap p (ap (λ o. unwrap_or o x) h) ∙ e))
  any_granted-set p (x ∷ xs) (g ∷ gs) (suc r) b w h e = ap (λ a. (g && p x) || a) (any_granted-set p xs gs r b w h e)

  -- a list by its places
  pub map_by_places : (h : X → Bool) (xs : List X) (gs : List Bool) → length gs ≡ length xs → ((j : ℕ) (v : X) → slice_get xs j ≡ Some v → get_or gs j false ≡ h v) → gs ≡ map h xs
  map_by_places h [] [] e k = refl
  map_by_places h [] (g ∷ gs) e k = absurd (none e) where
    none : suc (length gs) ≡ 0 → ⊥
    none e = omega (arith, e)
  map_by_places h (x ∷ xs) [] e k = absurd (none e) where
    none : 0 ≡ suc (length xs) → ⊥
    none e = omega (arith, e)
  map_by_places h (x ∷ xs) (g ∷ gs) e k = ap₂ (λ a l. a ∷ l) (k 0 x refl) (map_by_places h xs gs (omega (arith, e)) (λ j v. k (suc j) v))

-- what holds after the k first of the ranking rs
pub record Passed (ws : List Candidate) (coenrolling : List (List ℕ)) (rs : List ℕ) (gs : List Bool) (k : ℕ) : Type 0 where
  pub whole : length gs ≡ length ws
  -- only these are granted
  pub among : (j : ℕ) → get_or gs j false ≡ true → (m : ℕ) × (m < k) × (get_or rs m 0 ≡ j)
  -- and each exactly where it isn't blocked
  pub so : (m : ℕ) (w : Candidate) → m < k → slice_get ws (get_or rs m 0) ≡ Some w → get_or gs (get_or rs m 0) false ≡ not (is_blocked coenrolling ws gs w)

none_granted : (n j : ℕ) → get_or (replicate n false) j false ≡ true → ⊥
none_granted zero j h = true≢false (sym h)
none_granted (suc n) zero h = true≢false (sym h)
none_granted (suc n) (suc j) h = none_granted n j h

module _ (ws : List Candidate) (coenrolling : List (List ℕ)) (rs : List ℕ) where
  pub passed_none : (gs : List Bool) → gs ≡ replicate (length ws) false → length gs ≡ length ws → Passed ws coenrolling rs gs 0
  passed_none gs e l = record {
    whole = l;
    among = λ j h. absurd (none_granted (length ws) j (sym (ap (λ g. get_or g j false) e) ∙ h));
    so = λ m w h k. absurd (none m h);
  } where
    none : (m : ℕ) → m < 0 → ⊥
    none m h = omega (arith, h)

  module _ (own : HaveOwnSlugs ws) (perm : IsPermutation (range_with_len 0 (length ws)) rs) (sorted : IsSorted (place_cmp ws) rs) where
    -- a later one is not before an earlier one
    later : (m k : ℕ) (v w : Candidate) → m ≤ k → k < length rs → slice_get ws (get_or rs m 0) ≡ Some v → slice_get ws (get_or rs k 0) ≡ Some w → is_before w v ≡ false
    later m k v w h l a b =
        let f : is_lt (option_cmp rank_cmp (slice_get ws (get_or rs k 0)) (slice_get ws (get_or rs m 0))) ≡ false = sorted_far (λ a b. is_lt (place_cmp ws a b)) (ranks_by (options_total rank_cmp_total) (slice_get ws)) rs sorted m k 0 h l in
        sym (ap₂ (λ p q. is_lt (option_cmp rank_cmp p q)) b a) ∙ f

    -- and an earlier one is before it
    earlier : (m k : ℕ) (v w : Candidate) → m < k → k < length rs → slice_get ws (get_or rs m 0) ≡ Some v → slice_get ws (get_or rs k 0) ≡ Some w → is_before v w ≡ true
    earlier m k v w h l a b = is_before-other v w (later m k v w (omega (arith, h)) l a b) (λ e. places_apart (length ws) rs perm m k h l (own (get_or rs m 0) (get_or rs k 0) v w a b e))

    -- to ask all that are granted so far is to ask those of lower rank
    pub held : (gs : List Bool) (k : ℕ) (w : Candidate) → Passed ws coenrolling rs gs k → k < length rs → slice_get ws (get_or rs k 0) ≡ Some w → any_granted (λ v. clashes coenrolling v w) ws gs ≡ is_blocked coenrolling ws gs w
    held gs k w p l b = any_granted-same (λ v. clashes coenrolling v w) (λ v. is_before v w && clashes coenrolling v w) ws gs each where
      each : (j : ℕ) (v : Candidate) → slice_get ws j ≡ Some v → get_or gs j false ≡ true → clashes coenrolling v w ≡ (is_before v w && clashes coenrolling v w)
      each j v a g =
          let m = p.among j g in
          sym (ap (λ t. t && clashes coenrolling v w) (earlier m.0 k v w m.1 l (ap (slice_get ws) m.2 ∙ a) b))

    -- the answer on w changes nothing for those up to it
    kept : (gs : List Bool) (m k : ℕ) (v w : Candidate) (b : Bool) → m ≤ k → k < length rs → slice_get ws (get_or rs m 0) ≡ Some v → slice_get ws (get_or rs k 0) ≡ Some w → is_blocked coenrolling ws (set gs (get_or rs k 0) b) v ≡ is_blocked coenrolling ws gs v
    kept gs m k v w b h l a c = any_granted-set (λ u. is_before u v && clashes coenrolling u v) ws gs (get_or rs k 0) b w c (ap (λ t. t && clashes coenrolling w v) (later m k v w h l a c))

    pub passed_more : (gs : List Bool) (k : ℕ) (w : Candidate) (b : Bool) → Passed ws coenrolling rs gs k → k < length rs → slice_get ws (get_or rs k 0) ≡ Some w → b ≡ not (any_granted (λ v. clashes coenrolling v w) ws gs) → Passed ws coenrolling rs (set gs (get_or rs k 0) b) (k + 1)
    passed_more gs k w b p l a e = record {
      whole = length-set gs (get_or rs k 0) b ∙ p.whole;
      among = λ j h. among_more j (nat_cases j (get_or rs k 0)) h;
      so = λ m v h c. so_more m v (last_or_before m k h) c;
    } where
      inside : get_or rs k 0 < length gs
      inside = rw p.whole (slice_get_within ws (get_or rs k 0) w a)

      nat_cases : (i j : ℕ) → (i ≡ j) ⊎ (i ≢ j)
      nat_cases zero zero = inl refl
      nat_cases zero (suc j) = inr (λ e. omega (arith, e))
      nat_cases (suc i) zero = inr (λ e. omega (arith, e))
      nat_cases (suc i) (suc j) = ⊎_elim (λ e. inl (ap suc e)) (λ n. inr (λ e. n (omega (arith, e)))) (nat_cases i j)

      last_or_before : (m k : ℕ) → m < k + 1 → (m < k) ⊎ (m ≡ k)
      last_or_before m k h = from (nat_cases m k) where
        from : (m ≡ k) ⊎ (m ≢ k) → (m < k) ⊎ (m ≡ k)
        from (inl e) = inr e
        from (inr n) = inl (omega (arith, n, h))

      among_more : (j : ℕ) → (j ≡ get_or rs k 0) ⊎ (j ≢ get_or rs k 0) → get_or (set gs (get_or rs k 0) b) j false ≡ true → (m : ℕ) × (m < k + 1) × (get_or rs m 0 ≡ j)
      among_more j (inl e) h = (k, omega arith, sym e)
      among_more j (inr n) h =
          let m = p.among j (sym (get_or-set_other gs (get_or rs k 0) j b false n) ∙ h) in
          (m.0, omega (arith, m.1), m.2)

      so_more : (m : ℕ) (v : Candidate) → (m < k) ⊎ (m ≡ k) → slice_get ws (get_or rs m 0) ≡ Some v → get_or (set gs (get_or rs k 0) b) (get_or rs m 0) false ≡ not (is_blocked coenrolling ws (set gs (get_or rs k 0) b) v)
      so_more m v (inl h) c = get_or-set_other gs (get_or rs k 0) (get_or rs m 0) b false (places_apart (length ws) rs perm m k h l) ∙ p.so m v h c ∙ ap not (sym (kept gs m k v w b (omega (arith, h)) l c a))
      so_more m v (inr q) c =
          let same : get_or rs m 0 ≡ get_or rs k 0 = ap (λ i. get_or rs i 0) q in
          let one : v ≡ w = ap (λ o. unwrap_or o v) (sym c ∙ ap (slice_get ws) same ∙ a) in
          ap (λ i. get_or (set gs (get_or rs k 0) b) i false) same ∙ get_or-set_same gs (get_or rs k 0) b false inside ∙ e ∙ ap not (held gs k w p l a) ∙ ap not (sym (kept gs k k w w b (omega arith) l a a)) ∙ ap (λ u. not (is_blocked coenrolling ws (set gs (get_or rs k 0) b) u)) (sym one)

    pub passed_all : (gs : List Bool) (k : ℕ) → Passed ws coenrolling rs gs k → k ≡ length rs → Settled ws coenrolling gs
    passed_all gs k p e = map_by_places (λ w. not (is_blocked coenrolling ws gs w)) ws gs p.whole each where
      each : (j : ℕ) (w : Candidate) → slice_get ws j ≡ Some w → get_or gs j false ≡ not (is_blocked coenrolling ws gs w)
      each j w a =
          let m = places_all (length ws) rs perm j (slice_get_within ws j w a) in
          sym (ap (λ i. get_or gs i false) m.2) ∙ p.so m.0 w (omega (arith, m.1, e)) (ap (slice_get ws) m.2 ∙ a)

    -- the next one is not granted yet
    pub not_yet : (gs : List Bool) (k : ℕ) → Passed ws coenrolling rs gs k → k < length rs → get_or gs (get_or rs k 0) false ≡ false
    not_yet gs k p l = no (get_or gs (get_or rs k 0) false) (λ h. let m = p.among (get_or rs k 0) h in places_apart (length ws) rs perm m.0 k m.1 l m.2) where
      no : (b : Bool) → (b ≡ true → ⊥) → b ≡ false
      no true h = absurd (h refl)
      no false h = refl
