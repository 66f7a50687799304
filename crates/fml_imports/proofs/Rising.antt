-- Names that rise, and one more at its place among them.
use Rattle.std.proofs.Common.{Ordering, ◌≡◌, ℕ, true, false, List, [], ◌∷◌, ◌++◌, map, Less, Equal, Greater, refl, sym, ap, ◌∙◌, subst}
use Rattle.std.specs.Prelude.{◌||◌, bytes_eq, if◌then◌else◌}
use Rattle.std.specs.Cmp.Lexicographic.{slice_cmp}
use Rattle.std.specs.Ordering.{nat_cmp, is_eq, is_lt}
use Rattle.std.proofs.lemmas.Cmp.{nat_list_cmp_total}
use Rattle.std.proofs.lemmas.Bool.{or_parts}
use Rattle.sequences.proofs.Texts.{is_eq-turned, lesser_texts, turned_down, turned_up}
use Rattle.fml_types.specs.Named.{IsAbove, IsBelow, AreRising, has_name, with_name}

pub less_trans : (a b c : List ℕ) → slice_cmp nat_cmp a b ≡ Less → slice_cmp nat_cmp b c ≡ Less → slice_cmp nat_cmp a c ≡ Less
less_trans a b c h k = nat_list_cmp_total.trans a b c h k

pub below_lower : {T : Type 0} (a b : List ℕ) (ps : List (List ℕ × T)) → slice_cmp nat_cmp a b ≡ Less → IsBelow b ps → IsBelow a ps
below_lower a b [] less below = tt
below_lower a b (p ∷ ps) less below = (less_trans a b p.0 less below.0, below_lower a b ps less below.1)

pub above_upper : {T : Type 0} (a b : List ℕ) (ps : List (List ℕ × T)) → slice_cmp nat_cmp a b ≡ Less → IsAbove a ps → IsAbove b ps
above_upper a b [] less above = tt
above_upper a b (p ∷ ps) less above = (less_trans p.0 a b above.0 less, above_upper a b ps less above.1)

pub above_join : {T : Type 0} (a : List ℕ) (ps qs : List (List ℕ × T)) → IsAbove a ps → IsAbove a qs → IsAbove a (ps ++ qs)
above_join a [] qs first second = second
above_join a (p ∷ ps) qs first second = (first.0, above_join a ps qs first.1 second)

pub rising_right : {T : Type 0} (ps qs : List (List ℕ × T)) → AreRising (ps ++ qs) → AreRising qs
rising_right [] qs rising = rising
rising_right (p ∷ ps) qs rising = rising_right ps qs rising.1

-- ---- the same names

below_same : {T : Type 0} (f : List ℕ × T → List ℕ × T) → ((p : List ℕ × T) → (f p).0 ≡ p.0) → (a : List ℕ) (ps : List (List ℕ × T)) → IsBelow a ps → IsBelow a (map f ps)
below_same f same a [] below = tt
below_same f same a (p ∷ ps) below = (subst (λ n. slice_cmp nat_cmp a n ≡ Less) (sym (same p)) below.0, below_same f same a ps below.1)

pub rising_same : {T : Type 0} (f : List ℕ × T → List ℕ × T) → ((p : List ℕ × T) → (f p).0 ≡ p.0) → (ps : List (List ℕ × T)) → AreRising ps → AreRising (map f ps)
rising_same f same [] rising = tt
rising_same f same (p ∷ ps) rising = (subst (λ n. IsBelow n (map f ps)) (sym (same p)) (below_same f same p.0 ps rising.0), rising_same f same ps rising.1)

-- ---- a name that is not there

pub absent_below : {T : Type 0} (a : List ℕ) (ps : List (List ℕ × T)) → IsBelow a ps → has_name a ps ≡ false
absent_below a [] below = refl
absent_below a (p ∷ ps) below = ap (λ b. b || has_name a ps) (sym (is_eq-turned a p.0) ∙ ap is_eq below.0) ∙ absent_below a ps below.1

pub named_past : {T : Type 0} (a : List ℕ) (ps qs : List (List ℕ × T)) → IsAbove a ps → has_name a (ps ++ qs) ≡ has_name a qs
named_past a [] qs above = refl
named_past a (p ∷ ps) qs above = ap (λ b. b || has_name a (ps ++ qs)) (lesser_texts p.0 a above.0) ∙ named_past a ps qs above.1

-- ---- one more at its place

pub with_between : {T : Type 0} (p : List ℕ × T) (ps qs : List (List ℕ × T)) → IsAbove p.0 ps → IsBelow p.0 qs → with_name p (ps ++ qs) ≡ ps ++ p ∷ qs
with_between p [] [] above below = refl
with_between p [] (q ∷ qs) above below = ap (λ (o : Ordering). if is_lt o then p ∷ q ∷ qs else q ∷ with_name p qs) below.0
with_between p (q ∷ ps) qs above below =
    ap (λ (o : Ordering). if is_lt o then p ∷ q ∷ (ps ++ qs) else q ∷ with_name p (ps ++ qs)) (turned_up q.0 p.0 above.0) ∙ ap (λ l. q ∷ l) (with_between p ps qs above.1 below)

below_with : {T : Type 0} (name : List ℕ) (p : List ℕ × T) (ps : List (List ℕ × T)) → slice_cmp nat_cmp name p.0 ≡ Less → IsBelow name ps → IsBelow name (with_name p ps)
below_with name p [] less below = (less, tt)
below_with name p (q ∷ qs) less below =
    elim (is_lt (slice_cmp nat_cmp p.0 q.0)) as (λ b. IsBelow name (if b then p ∷ q ∷ qs else q ∷ with_name p qs)) [
      | true ↦ (less, below)
      | false ↦ (below.0, below_with name p qs less below.1)
    ]

rises_at : {T : Type 0} (p q : List ℕ × T) (qs : List (List ℕ × T)) (o : Ordering) → slice_cmp nat_cmp p.0 q.0 ≡ o → bytes_eq q.0 p.0 ≡ false → AreRising (q ∷ qs) → AreRising (with_name p qs) → AreRising (if is_lt o then p ∷ q ∷ qs else q ∷ with_name p qs)
rises_at p q qs Less e apart rising rest = ((e, below_lower p.0 q.0 qs e rising.0), rising)
rises_at p q qs Equal e apart rising rest = absurd (let same : is_eq (slice_cmp nat_cmp p.0 q.0) ≡ bytes_eq q.0 p.0 = is_eq-turned p.0 q.0 in let equal : is_eq (slice_cmp nat_cmp p.0 q.0) ≡ true = ap is_eq e in cc)
rises_at p q qs Greater e apart rising rest = (below_with q.0 p qs (turned_down p.0 q.0 e) rising.0, rest)

pub rises_with : {T : Type 0} (p : List ℕ × T) (ps : List (List ℕ × T)) → has_name p.0 ps ≡ false → AreRising ps → AreRising (with_name p ps)
rises_with p [] new rising = (tt, tt)
rises_with p (q ∷ qs) new rising = rises_at p q qs (slice_cmp nat_cmp p.0 q.0) refl (or_parts (bytes_eq q.0 p.0) (has_name p.0 qs) new).0 rising (rises_with p qs (or_parts (bytes_eq q.0 p.0) (has_name p.0 qs) new).1 rising.1)
