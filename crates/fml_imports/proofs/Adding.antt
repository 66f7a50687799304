-- What it takes to add a name to names in order, between those that are below it and those that are left.
use Rattle.std.proofs.Common.{Ordering, ◌≡◌, ℕ, zero, suc, ◌+◌, ◌-◌, ◌<◌, ◌≤◌, Bool, true, false, List, [], ◌∷◌, ◌++◌, length, get_or, take, drop, Less, Equal, Greater, Result, Ok, Err, refl, sym, ap, ◌∙◌, subst, append_assoc, arith}
use Rattle.std.specs.Prelude.{◌||◌, bytes_eq, if◌then◌else◌}
use Rattle.std.specs.Cmp.Lexicographic.{slice_cmp}
use Rattle.std.specs.Ordering.{nat_cmp, is_eq, is_lt}
use Rattle.std.proofs.lemmas.List.{take-append-drop}
use Rattle.std.proofs.lemmas.Map.Text.{is_eq-slice_cmp}
use Rattle.std.proofs.lemmas.Bool.{or_parts}
use Rattle.sequences.proofs.Texts.{is_Less, turned_down}
use Rattle.fml_types.specs.Named.{IsAbove, IsBelow, AreRising, has_name, with_name}
use Rattle.fml_types.proofs.Places.{below_at}
use Rattle.fml_imports.specs.Merging.{with_new, count_below, is_first, IsFirstAbove}
use Rattle.fml_imports.specs.Outcome.{◌>>=◌, each, Fails}
use Rattle.fml_imports.specs.declared.fault.JoinFault.{JoinFault}
use Rattle.fml_imports.specs.declared.fault.JoinRefusal.{JoinRefusal}
use Rattle.fml_imports.specs.declared.fault.JoinRefusal.TheVariants.{DuplicateName}
use Rattle.fml_imports.proofs.Rising.{less_trans, below_lower, above_upper, above_join, rising_right, absent_below, named_past, with_between, rises_with}
use Rattle.fml_imports.proofs.Steps.{each_turn, each_fails}

-- ---- how many names are below one

-- at a place where no name is below it, no more come before
pub past_below : {T : Type 0} (a : List ℕ) (ps : List (List ℕ × T)) (i : ℕ) (d : List ℕ × T) → is_lt (slice_cmp nat_cmp (get_or ps i d).0 a) ≡ false → count_below a ps ≤ i
past_below a [] i d above = omega arith
past_below a (p ∷ ps) zero d above = subst (λ (b : Bool). (if b then suc (count_below a ps) else 0) ≤ 0) (sym above) (omega arith)
past_below a (p ∷ ps) (suc i) d above =
    elim (is_lt (slice_cmp nat_cmp p.0 a)) as (λ (b : Bool). (if b then suc (count_below a ps) else 0) ≤ suc i) [
      | true ↦ let rest : count_below a ps ≤ i = past_below a ps i d above in omega (arith, rest)
      | false ↦ omega arith
    ]

-- a place where a name is below it is before that many
pub before_below : {T : Type 0} (a : List ℕ) (ps : List (List ℕ × T)) (i : ℕ) (d : List ℕ × T) → AreRising ps → i < length ps → is_lt (slice_cmp nat_cmp (get_or ps i d).0 a) ≡ true → i < count_below a ps
before_below a [] i d rising h less = absurd (omega arith)
before_below a (p ∷ ps) zero d rising h less = subst (λ (b : Bool). 0 < (if b then suc (count_below a ps) else 0)) (sym less) (omega arith)
before_below a (p ∷ ps) (suc i) d rising h less =
    let under : slice_cmp nat_cmp p.0 a ≡ Less = less_trans p.0 (get_or ps i d).0 a (below_at p.0 ps i d (omega arith) rising.0) (is_Less (slice_cmp nat_cmp (get_or ps i d).0 a) less) in
    let later : i < count_below a ps = before_below a ps i d rising.1 (omega arith) less in
    subst (λ (o : Ordering). suc i < (if is_lt o then suc (count_below a ps) else 0)) (sym under) (omega (arith, later))

pub below_within : {T : Type 0} (a : List ℕ) (ps : List (List ℕ × T)) → count_below a ps ≤ length ps
below_within a [] = omega arith
below_within a (p ∷ ps) =
    elim (is_lt (slice_cmp nat_cmp p.0 a)) as (λ (b : Bool). (if b then suc (count_below a ps) else 0) ≤ length (p ∷ ps)) [
      | true ↦ let rest : count_below a ps ≤ length ps = below_within a ps in omega (arith, rest)
      | false ↦ omega arith
    ]

-- ---- the names before that place and those from it on

pub above_front : {T : Type 0} (a : List ℕ) (ps : List (List ℕ × T)) → IsAbove a (take (count_below a ps) ps)
above_front a [] = tt
above_front a (p ∷ ps) =
    elim (slice_cmp nat_cmp p.0 a) as (λ (o : Ordering). slice_cmp nat_cmp p.0 a ≡ o → IsAbove a (take (if is_lt o then suc (count_below a ps) else 0) (p ∷ ps))) [
      | Less ↦ λ is. (is, above_front a ps)
      | Equal ↦ λ is. tt
      | Greater ↦ λ is. tt
    ] refl

-- the name is there where the first of the others has it, and is below them where it isn't
abbrev pub IsSplit : {T : Type 0} → List ℕ → List (List ℕ × T) → List (List ℕ × T) → Type 0
IsSplit a ps left = (has_name a ps ≡ is_first a left) × (is_first a left ≡ false → IsBelow a left)

here_first : {T : Type 0} (a : List ℕ) (p : List ℕ × T) (ps : List (List ℕ × T)) (o : Ordering) → slice_cmp nat_cmp p.0 a ≡ o → AreRising (p ∷ ps) → IsSplit a ps (drop (count_below a ps) ps) → IsSplit a (p ∷ ps) (drop (if is_lt o then suc (count_below a ps) else 0) (p ∷ ps))
here_first a p ps Less is rising rest =
    let other : bytes_eq p.0 a ≡ false = sym (is_eq-slice_cmp p.0 a) ∙ ap is_eq is in
    (ap (λ b. b || has_name a ps) other ∙ rest.0, rest.1)
here_first a p ps Equal is rising rest =
    let same : bytes_eq p.0 a ≡ true = sym (is_eq-slice_cmp p.0 a) ∙ ap is_eq is in
    (ap (λ b. b || has_name a ps) same ∙ sym same, λ h. absurd (let both : true ≡ false = sym same ∙ h in cc))
here_first a p ps Greater is rising rest =
    let under : slice_cmp nat_cmp a p.0 ≡ Less = turned_down p.0 a is in
    let below : IsBelow a (p ∷ ps) = (under, below_lower a p.0 ps under rising.0) in
    let other : bytes_eq p.0 a ≡ false = sym (is_eq-slice_cmp p.0 a) ∙ ap is_eq is in
    (absent_below a (p ∷ ps) below ∙ sym other, λ h. below)

pub is_split : {T : Type 0} (a : List ℕ) (ps : List (List ℕ × T)) → AreRising ps → IsSplit a ps (drop (count_below a ps) ps)
is_split a [] rising = (refl, λ h. tt)
is_split a (p ∷ ps) rising = here_first a p ps (slice_cmp nat_cmp p.0 a) refl rising (is_split a ps rising.1)

-- ---- one name

either : (a b : Bool) → (a || b) ≡ true → (c : Bool) → c ≡ a → (c || b) ≡ true
either a b h c same = ap (λ d. d || b) same ∙ h

neither : (a b : Bool) → (a || b) ≡ false → (c : Bool) → c ≡ a → (c || b) ≡ false
neither a b h c same = ap (λ d. d || b) same ∙ h

module _ {T U : Type 0} (others : List (List ℕ × U)) (done left : List (List ℕ × T)) (p : List ℕ × T) (rising : AreRising (done ++ left)) (above : IsAbove p.0 done) where
  abbrev lower_left : List (List ℕ × T)
  lower_left = take (count_below p.0 left) left

  abbrev upper_left : List (List ℕ × T)
  upper_left = drop (count_below p.0 left) left

  named : has_name p.0 (done ++ left) ≡ is_first p.0 upper_left
  named = named_past p.0 done left above ∙ (is_split p.0 left (rising_right done left rising)).0

  -- a name that is met
  pub met : (is_first p.0 upper_left || has_name p.0 others) ≡ true → with_new others (done ++ left) p ≡ Err (DuplicateName p.0)
  met h = ap (λ (b : Bool). if b then Err (DuplicateName p.0) else Ok (with_name p (done ++ left))) (either (is_first p.0 upper_left) (has_name p.0 others) h (has_name p.0 (done ++ left)) named)

  joins : done ++ left ≡ (done ++ lower_left) ++ upper_left
  joins = ap (λ l. done ++ l) (sym (take-append-drop (count_below p.0 left) left)) ∙ sym (append_assoc done lower_left upper_left)

  above_done : IsAbove p.0 (done ++ lower_left)
  above_done = above_join p.0 done lower_left above (above_front p.0 left)

  module _ (new : (is_first p.0 upper_left || has_name p.0 others) ≡ false) where
    placed : with_name p (done ++ left) ≡ ((done ++ lower_left) ++ p ∷ []) ++ upper_left
    placed =
        ap (with_name p) joins ∙ with_between p (done ++ lower_left) upper_left above_done ((is_split p.0 left (rising_right done left rising)).1 (or_parts (is_first p.0 upper_left) (has_name p.0 others) new).0)
        ∙ sym (append_assoc (done ++ lower_left) (p ∷ []) upper_left)

    -- a new name
    pub put : with_new others (done ++ left) p ≡ Ok (((done ++ lower_left) ++ p ∷ []) ++ upper_left)
    put =
        ap (λ (b : Bool). if b then Err (DuplicateName p.0) else Ok (with_name p (done ++ left))) (neither (is_first p.0 upper_left) (has_name p.0 others) new (has_name p.0 (done ++ left)) named)
        ∙ ap (λ l. Ok l) placed

    pub put_rises : AreRising (((done ++ lower_left) ++ p ∷ []) ++ upper_left)
    put_rises = subst AreRising placed (rises_with p (done ++ left) (named ∙ (or_parts (is_first p.0 upper_left) (has_name p.0 others) new).0) rising)

    -- what is above the name is above all before it
    pub put_below : (next : List ℕ) → slice_cmp nat_cmp p.0 next ≡ Less → IsAbove next ((done ++ lower_left) ++ p ∷ [])
    put_below next less = above_join next (done ++ lower_left) (p ∷ []) (above_upper p.0 next (done ++ lower_left) less above_done) (less, tt)

-- ---- one name, as it is added

module _ {T U : Type 0} (others : List (List ℕ × U)) (done left passed rest : List (List ℕ × T)) (p : List ℕ × T) (count : ℕ) (is_met : Bool) (rising : AreRising (done ++ left)) (above : IsAbove p.0 done)
    (is : count ≡ count_below p.0 left) (passes : passed ≡ done ++ take count left) (rests : rest ≡ drop count left) (tells : is_met ≡ (is_first p.0 rest || has_name p.0 others)) where
  at_rest : rest ≡ drop (count_below p.0 left) left
  at_rest = rests ∙ ap (λ n. drop n left) is

  pub met_there : is_met ≡ true → with_new others (done ++ left) p ≡ Err (DuplicateName p.0)
  met_there h = met others done left p rising above (ap (λ l. is_first p.0 l || has_name p.0 others) (sym at_rest) ∙ sym tells ∙ h)

  pub put_there : (more : List (List ℕ × T)) → is_met ≡ false → more ≡ passed ++ p ∷ [] → (with_new others (done ++ left) p ≡ Ok (more ++ rest)) × AreRising (more ++ rest) × ((next : List ℕ) → slice_cmp nat_cmp p.0 next ≡ Less → IsAbove next more)
  put_there more h is_more =
      let new : (is_first p.0 (drop (count_below p.0 left) left) || has_name p.0 others) ≡ false = ap (λ l. is_first p.0 l || has_name p.0 others) (sym at_rest) ∙ sym tells ∙ h in
      let at_more : more ≡ (done ++ take (count_below p.0 left) left) ++ p ∷ [] = is_more ∙ ap (λ l. l ++ p ∷ []) (passes ∙ ap (λ n. done ++ take n left) is) in
      let all : more ++ rest ≡ ((done ++ take (count_below p.0 left) left) ++ p ∷ []) ++ drop (count_below p.0 left) left = ap (λ l. l ++ rest) at_more ∙ ap (λ l. ((done ++ take (count_below p.0 left) left) ++ p ∷ []) ++ l) at_rest in (
        put others done left p rising above new ∙ ap (λ l. Ok l) (sym all),
        subst AreRising (sym all) (put_rises others done left p rising above new),
        λ next less. subst (IsAbove next) (sym at_more) (put_below others done left p rising above new next less),
      )

-- ---- pairs that are moved from the front

pub one_left : {A : Type 0} (xs ys : List A) (x : A) → xs ≡ x ∷ ys → take 1 xs ≡ x ∷ []
one_left xs ys x is = ap (take 1) is

pub none_left : {A : Type 0} (xs ys : List A) → xs ≡ ys → ys ≡ drop 1 xs → take 1 xs ≡ []
none_left [] ys same rest = refl
none_left (x ∷ xs) ys same rest = absurd (let short : suc (length xs) ≡ length xs = ap length (same ∙ rest) in omega (arith, short))

one_more : {A : Type 0} (m : ℕ) (xs : List A) → take 1 xs ++ take m (drop 1 xs) ≡ take (suc m) xs
one_more zero [] = refl
one_more (suc m) [] = refl
one_more m (x ∷ xs) = refl

one_less : {A : Type 0} (m : ℕ) (xs : List A) → drop m (drop 1 xs) ≡ drop (suc m) xs
one_less zero [] = refl
one_less (suc m) [] = refl
one_less m (x ∷ xs) = refl

pub moved : {A : Type 0} (done left more rest : List A) (n : ℕ) → 0 < n → more ≡ done ++ take 1 left → rest ≡ drop 1 left → (more ++ take (n - 1) rest ≡ done ++ take n left) × (drop (n - 1) rest ≡ drop n left)
moved done left more rest n some takes drops =
    let one : suc (n - 1) ≡ n = omega (arith, some) in (
      ap (λ l. l ++ take (n - 1) rest) takes ∙ ap (λ l. (done ++ take 1 left) ++ take (n - 1) l) drops ∙ append_assoc done (take 1 left) (take (n - 1) (drop 1 left)) ∙ ap (λ l. done ++ l) (one_more (n - 1) left) ∙ ap (λ k. done ++ take k left) one,
      ap (drop (n - 1)) drops ∙ one_less (n - 1) left ∙ ap (λ k. drop k left) one,
    )

-- ---- the names that follow

first_above : {T U : Type 0} (done : List (List ℕ × T)) (p : List ℕ × U) (ps : List (List ℕ × U)) → AreRising (p ∷ ps) → ((next : List ℕ) → slice_cmp nat_cmp p.0 next ≡ Less → IsAbove next done) → IsFirstAbove done ps
first_above done p [] rising next = tt
first_above done p (q ∷ qs) rising next = next q.0 rising.0.0

pub first_next : {T U : Type 0} (done : List (List ℕ × T)) (ps qs : List (List ℕ × U)) (p : List ℕ × U) → ps ≡ p ∷ qs → AreRising ps → ((next : List ℕ) → slice_cmp nat_cmp p.0 next ≡ Less → IsAbove next done) → IsFirstAbove done qs
first_next done ps qs p is rising next = first_above done p qs (subst AreRising is rising) next

pub first_named : {T U : Type 0} (done : List (List ℕ × T)) (ps qs : List (List ℕ × U)) (p : List ℕ × U) → ps ≡ p ∷ qs → IsFirstAbove done ps → IsAbove p.0 done
first_named done ps qs p is above = subst (IsFirstAbove done) is above

pub rest_rises : {U : Type 0} (ps qs : List (List ℕ × U)) (p : List ℕ × U) → ps ≡ p ∷ qs → AreRising ps → AreRising qs
rest_rises ps qs p is rising = (subst AreRising is rising).1

-- a name above the last is above all
above_at : {T : Type 0} (a : List ℕ) (ps : List (List ℕ × T)) (i : ℕ) (d : List ℕ × T) → AreRising ps → length ps ≤ suc i → i < length ps → is_lt (slice_cmp nat_cmp (get_or ps i d).0 a) ≡ true → IsAbove a ps
above_at a [] i d rising most within less = tt
above_at a (p ∷ []) zero d rising most within less = (is_Less (slice_cmp nat_cmp p.0 a) less, tt)
above_at a (p ∷ q ∷ ps) zero d rising most within less = absurd (omega (arith, most))
above_at a (p ∷ ps) (suc i) d rising most within less = (
  less_trans p.0 (get_or ps i d).0 a (below_at p.0 ps i d (omega (arith, within)) rising.0) (is_Less (slice_cmp nat_cmp (get_or ps i d).0 a) less),
  above_at a ps i d rising.1 (omega (arith, most)) (omega (arith, within)) less,
)

pub above_last : {T : Type 0} (a : List ℕ) (ps : List (List ℕ × T)) (q : List ℕ × T) → AreRising ps → 0 < length ps → q ≡ get_or ps (length ps - 1) q → is_lt (slice_cmp nat_cmp q.0 a) ≡ true → IsAbove a ps
above_last {T = T} a ps q rising some is less = above_at a ps (length ps - 1) q rising (omega arith) (omega (arith, some)) (subst (λ (r : List ℕ × T). is_lt (slice_cmp nat_cmp r.0 a) ≡ true) is less)

-- ---- the others, of which those below the names that follow are left out

below_front : {T : Type 0} (a : List ℕ) (ps qs : List (List ℕ × T)) → IsBelow a (ps ++ qs) → IsBelow a ps
below_front a [] qs below = tt
below_front a (p ∷ ps) qs below = (below.0, below_front a ps qs below.1)

rising_left : {T : Type 0} (ps qs : List (List ℕ × T)) → AreRising (ps ++ qs) → AreRising ps
rising_left [] qs rising = tt
rising_left (p ∷ ps) qs rising = (below_front p.0 ps qs rising.0, rising_left ps qs rising.1)

pub front_rises : {T : Type 0} (ps qs all : List (List ℕ × T)) → ps ++ qs ≡ all → AreRising all → AreRising ps
front_rises ps qs all is rising = rising_left ps qs (subst AreRising (sym is) rising)

pub back_rises : {T : Type 0} (ps qs all : List (List ℕ × T)) → ps ++ qs ≡ all → AreRising all → AreRising qs
back_rises ps qs all is rising = rising_right ps qs (subst AreRising (sym is) rising)

-- the names of two lists in a row
count_both : {T : Type 0} (a : List ℕ) (ps qs : List (List ℕ × T)) → count_below a ps ≡ length ps → count_below a (ps ++ qs) ≡ length ps + count_below a qs
count_both a [] qs all = omega arith
count_both a (p ∷ ps) qs all = here (is_lt (slice_cmp nat_cmp p.0 a)) all (count_both a ps qs)
  where
    here : (b : Bool) → (if b then suc (count_below a ps) else 0) ≡ suc (length ps) → (count_below a ps ≡ length ps → count_below a (ps ++ qs) ≡ length ps + count_below a qs) → (if b then suc (count_below a (ps ++ qs)) else 0) ≡ suc (length ps) + count_below a qs
    here true h later = let rest = later (omega (arith, h)) in omega (arith, rest)
    here false h later = absurd (omega (arith, h))

count_first : {T : Type 0} (a : List ℕ) (ps qs : List (List ℕ × T)) → count_below a ps < length ps → count_below a (ps ++ qs) ≡ count_below a ps
count_first a [] qs less = absurd (omega (arith, less))
count_first a (p ∷ ps) qs less = here (is_lt (slice_cmp nat_cmp p.0 a)) less (count_first a ps qs)
  where
    here : (b : Bool) → (if b then suc (count_below a ps) else 0) < suc (length ps) → (count_below a ps < length ps → count_below a (ps ++ qs) ≡ count_below a ps) → (if b then suc (count_below a (ps ++ qs)) else 0) ≡ (if b then suc (count_below a ps) else 0)
    here true h later = ap suc (later (omega (arith, h)))
    here false h later = refl

pub count_front : {T : Type 0} (a : List ℕ) (ps qs all : List (List ℕ × T)) (n : ℕ) → ps ++ qs ≡ all → n ≡ count_below a ps → n < length ps → n ≡ count_below a all
count_front a ps qs all n is counts less = counts ∙ sym (count_first a ps qs (omega (arith, counts, less))) ∙ ap (count_below a) is

pub count_all : {T : Type 0} (a : List ℕ) (ps qs all : List (List ℕ × T)) (n m : ℕ) → ps ++ qs ≡ all → n ≡ count_below a ps → m ≡ count_below a qs → length ps ≤ n → n ≤ length ps → n + m ≡ count_below a all
count_all a ps qs all n m is counts more least most =
    let whole : count_below a ps ≡ length ps = omega (arith, counts, least, most) in
    let both : count_below a (ps ++ qs) ≡ length ps + count_below a qs = count_both a ps qs whole in
    let same : n + m ≡ count_below a (ps ++ qs) = omega (arith, both, more, least, most) in
    same ∙ ap (count_below a) is

pub drop_rises : {U : Type 0} (os qs : List (List ℕ × U)) (n : ℕ) → qs ≡ drop n os → AreRising os → AreRising qs
drop_rises os qs n is rising = subst AreRising (sym is) (rising_right (take n os) (drop n os) (subst AreRising (sym (take-append-drop n os)) rising))

pub is_first_other : {U : Type 0} (a : List ℕ) (os qs : List (List ℕ × U)) → qs ≡ drop (count_below a os) os → AreRising os → is_first a qs ≡ has_name a qs
is_first_other a os qs is rising =
    let whole : has_name a os ≡ is_first a qs = (is_split a os rising).0 ∙ ap (is_first a) (sym is) in
    let named : has_name a os ≡ has_name a qs = ap (has_name a) (sym (take-append-drop (count_below a os) os)) ∙ named_past a (take (count_below a os) os) (drop (count_below a os) os) (above_front a os) ∙ ap (has_name a) (sym is) in
    sym whole ∙ named

module _ {T U : Type 0} (low high : List (List ℕ × U)) where
  either_way : (met : Bool) (name : List ℕ) (next : List (List ℕ × T)) (ps : List (List ℕ × T)) → each (with_new (low ++ high)) next ps ≡ each (with_new high) next ps
      → ((if met then Err (DuplicateName name) else Ok next) >>= λ l. each (with_new (low ++ high)) l ps) ≡ ((if met then Err (DuplicateName name) else Ok next) >>= λ l. each (with_new high) l ps)
  either_way true name next ps later = refl
  either_way false name next ps later = later

  without_low : (there ps : List (List ℕ × T)) → AreRising ps → IsFirstAbove low ps → each (with_new (low ++ high)) there ps ≡ each (with_new high) there ps
  without_low there [] rising above = refl
  without_low there (p ∷ ps) rising above =
      ap (λ (b : Bool). (if (has_name p.0 there || b) then Err (DuplicateName p.0) else Ok (with_name p there)) >>= λ l. each (with_new (low ++ high)) l ps) (named_past p.0 low high above)
      ∙ either_way (has_name p.0 there || has_name p.0 high) p.0 (with_name p there) ps (without_low (with_name p there) ps rising.1 (first_above low p ps rising (λ next less. above_upper p.0 next low less above)))

others_turn : {T U : Type 0} (os qs : List (List ℕ × U)) (there ps rest : List (List ℕ × T)) (p : List ℕ × T) (all : Result (List (List ℕ × T)) JoinRefusal) → qs ≡ drop (count_below p.0 os) os → ps ≡ p ∷ rest → AreRising ps
    → each (with_new os) there ps ≡ all → each (with_new qs) there (p ∷ rest) ≡ all
others_turn os qs there ps rest p all is split rising so_far =
    let low = take (count_below p.0 os) os in
    let high = drop (count_below p.0 os) os in
    ap (λ l. each (with_new l) there (p ∷ rest)) is ∙ sym (without_low low high there (p ∷ rest) (subst AreRising split rising) (above_front p.0 os))
    ∙ ap (λ l. each (with_new l) there (p ∷ rest)) (take-append-drop (count_below p.0 os) os) ∙ ap (each (with_new os) there) (sym split) ∙ so_far

-- a turn over the others that aren't below its name
pub added_turn : {T U : Type 0} (os qs : List (List ℕ × U)) (there next ps rest : List (List ℕ × T)) (p : List ℕ × T) (all : Result (List (List ℕ × T)) JoinRefusal) → qs ≡ drop (count_below p.0 os) os → ps ≡ p ∷ rest → AreRising ps
    → each (with_new os) there ps ≡ all → with_new qs there p ≡ Ok next → each (with_new qs) next rest ≡ all
added_turn os qs there next ps rest p all is split rising so_far one = each_turn (with_new qs) there next p rest all one (others_turn os qs there ps rest p all is split rising so_far)

pub added_fails : {T U : Type 0} (e : JoinFault) (os qs : List (List ℕ × U)) (there ps rest : List (List ℕ × T)) (p : List ℕ × T) (all : Result (List (List ℕ × T)) JoinRefusal) → qs ≡ drop (count_below p.0 os) os → ps ≡ p ∷ rest → AreRising ps
    → each (with_new os) there ps ≡ all → Fails e (with_new qs there p) → Fails e all
added_fails e os qs there ps rest p all is split rising so_far one = each_fails e (with_new qs) there p rest all one (others_turn os qs there ps rest p all is split rising so_far)
