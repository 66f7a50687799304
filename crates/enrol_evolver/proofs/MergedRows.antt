-- Rows of live recipes and what stays of old rows, merged by slug.
use Rattle.std.proofs.Common.{Ordering, ◌≡◌, ℕ, suc, ◌+◌, ◌<◌, Bool, true, false, List, [], ◌∷◌, ◌++◌, length, get_or, cond, take, drop, filter_map, Option, None, Some, Less, Equal, Greater, append_assoc, refl, sym, ap, ap₂, ◌∙◌, subst, arith}
use Rattle.std.specs.Prelude.{bytes_eq, option_map, option_and_then, if◌then◌else◌}
use Rattle.std.specs.Option.{option_or}
use Rattle.std.specs.Ordering.{is_lt}
use Rattle.std.specs.List.{AllByRecursion, cons_option, prefix_len, take_while}
use Rattle.std.specs.List.Sorted.{IsStrictlySortedBy}
use Rattle.std.specs.Cmp.Lexicographic.{bytes_decides}
use Rattle.std.proofs.lemmas.List.{take-append-drop, take_more}
use Rattle.std.proofs.lemmas.List.Elements.{filter_map-append}
use Rattle.std.proofs.lemmas.List.Sums.{take_while-cons}
use Rattle.sequences.proofs.Texts.{is_Less}
use Rattle.sequences.proofs.Rising.{above_front, above_behind, front_rises}
use Rattle.recipe_reader.specs.Payloads.{slug_cmp, recipe_with}
use Rattle.app_context.specs.declared.context.Context.{Context}
use Rattle.enrol_states.specs.Order.{Rise, AreAbove}
use Rattle.enrol_states.specs.State.{slugs_of, status_of}
use Rattle.enrol_states.specs.declared.state.State.{State}
use Rattle.enrol_states.specs.declared.state.Row.{Row}
use Rattle.enrol_states.specs.declared.status.Status.{Status}
use Rattle.enrol_states.proofs.Ordered.{equal_texts, same_texts, greater_texts, turned_up, turned_down, less_trans, above_trans}
use Rattle.enrol_states.proofs.Lookups.{slug_of}
use Rattle.enrol_evolver.specs.Wishes.{row_of}
use Rattle.enrol_evolver.specs.Evolution.{ended_row, is_below, status_left}
use Rattle.enrol_evolver.proofs.RowLists.{no_status}

-- what stays of old rows
abbrev pub ended_rows : Context → State → ℕ → List Row → List Row
ended_rows context s now qs = filter_map (ended_row context s now) qs

-- each row of a live recipe stands after what stays of the old rows below it
abbrev pub merged : Context → State → ℕ → List Row → List Row → List Row
merged context s now [] qs = ended_rows context s now qs
merged context s now (r ∷ rs) qs = ended_rows context s now (take_while (is_below r.slug) qs) ++ r ∷ merged context s now rs (drop (prefix_len (is_below r.slug) qs) qs)

-- ---- the rows in front

below_more : (n : ℕ) (q : Row) (qs : List Row) → drop (1 + n) (q ∷ qs) ≡ drop n qs
below_more n q qs = let e : 1 + n ≡ suc n = omega arith in ap (λ k. drop k (q ∷ qs)) e

-- one more row in front that passes
pub passed-left : (p : Row → Bool) (q : Row) (qs : List Row) → p q ≡ true → drop (prefix_len p (q ∷ qs)) (q ∷ qs) ≡ drop (prefix_len p qs) qs
passed-left p q qs e = ap (λ b. drop (cond b (1 + prefix_len p qs) 0) (q ∷ qs)) e ∙ below_more (prefix_len p qs) q qs

pub passed-taken : (p : Row → Bool) (q : Row) (qs : List Row) → p q ≡ true → take_while p (q ∷ qs) ≡ q ∷ take_while p qs
passed-taken p q qs e = take_while-cons p q qs ∙ ap (λ b. cond b (q ∷ take_while p qs) []) e

-- a row in front that doesn't pass
pub stopped-left : (p : Row → Bool) (q : Row) (qs : List Row) → p q ≡ false → drop (prefix_len p (q ∷ qs)) (q ∷ qs) ≡ q ∷ qs
stopped-left p q qs e = ap (λ b. drop (cond b (1 + prefix_len p qs) 0) (q ∷ qs)) e

pub stopped-taken : (p : Row → Bool) (q : Row) (qs : List Row) → p q ≡ false → take_while p (q ∷ qs) ≡ []
stopped-taken p q qs e = take_while-cons p q qs ∙ ap (λ b. cond b (q ∷ take_while p qs) []) e

-- the rows are those in front that pass, and those that are left
split : (p : Row → Bool) (qs : List Row) → take_while p qs ++ drop (prefix_len p qs) qs ≡ qs
split p qs = take-append-drop (prefix_len p qs) qs

ended-split : (context : Context) (s : State) (now : ℕ) (p : Row → Bool) (qs : List Row) → ended_rows context s now (take_while p qs) ++ ended_rows context s now (drop (prefix_len p qs) qs) ≡ ended_rows context s now qs
ended-split context s now p qs = sym (filter_map-append (ended_row context s now) (take_while p qs) (drop (prefix_len p qs) qs)) ∙ ap (ended_rows context s now) (split p qs)

-- one more row in front is passed
pub rows-passed : (context : Context) (s : State) (now : ℕ) (p : Row → Bool) (q : Row) (qs ls rows more whole : List Row) → ls ≡ q ∷ qs → p q ≡ true → more ≡ rows ++ ended_rows context s now (q ∷ []) → rows ++ ended_rows context s now (take_while p ls) ≡ whole → more ++ ended_rows context s now (take_while p qs) ≡ whole
rows-passed context s now p q qs ls rows more whole first pass added before =
    ap (λ xs. xs ++ ended_rows context s now (take_while p qs)) added ∙ append_assoc rows (ended_rows context s now (q ∷ [])) (ended_rows context s now (take_while p qs))
    ∙ ap (λ xs. rows ++ xs) (sym (filter_map-append (ended_row context s now) (q ∷ []) (take_while p qs)) ∙ ap (ended_rows context s now) (sym (passed-taken p q qs pass) ∙ ap (take_while p) (sym first))) ∙ before

pub left-passed : (p : Row → Bool) (q : Row) (qs ls whole : List Row) → ls ≡ q ∷ qs → p q ≡ true → drop (prefix_len p ls) ls ≡ whole → drop (prefix_len p qs) qs ≡ whole
left-passed p q qs ls whole first pass before = sym (passed-left p q qs pass) ∙ ap (λ xs. drop (prefix_len p xs) xs) (sym first) ∙ before

-- one old row more
pub ended-more : (context : Context) (s : State) (now : ℕ) (qs : List Row) (i : ℕ) (q : Row) (before rows more : List Row) → i < length qs → q ≡ get_or qs i q → rows ≡ before ++ ended_rows context s now (take i qs) → more ≡ rows ++ ended_rows context s now (q ∷ [])
    → more ≡ before ++ ended_rows context s now (take (i + 1) qs)
ended-more context s now qs i q before rows more less here made added =
    added ∙ ap₂ (λ xs r. xs ++ ended_rows context s now (r ∷ [])) made here ∙ append_assoc before (ended_rows context s now (take i qs)) (ended_rows context s now (get_or qs i q ∷ []))
    ∙ ap (λ xs. before ++ xs) (sym (filter_map-append (ended_row context s now) (take i qs) (get_or qs i q ∷ [])) ∙ ap (ended_rows context s now) (sym (take_more qs i q less)))

-- ---- statuses

or_or : (b : Bool) (st : Status) (x y : Option Status) → (if b then Some st else option_or x y) ≡ option_or (if b then Some st else x) y
or_or true st x y = refl
or_or false st x y = refl

pub status-append : (slug : List ℕ) (xs ys : List Row) → status_of slug (xs ++ ys) ≡ option_or (status_of slug xs) (status_of slug ys)
status-append slug [] ys = refl
status-append slug (x ∷ xs) ys = ap (λ o. if bytes_eq x.slug slug then Some x.status else o) (status-append slug xs ys) ∙ or_or (bytes_eq x.slug slug) x.status (status_of slug xs) (status_of slug ys)

none_left : (x y : Option Status) → option_or x y ≡ None → x ≡ None
none_left None y e = refl
none_left (Some st) y e = absurd cc

none_right : (x y : Option Status) → option_or x y ≡ None → y ≡ None
none_right None y e = e
none_right (Some st) y e = absurd cc

swapped : (a x b : Option Status) → ((st : Status) → x ≡ Some st → a ≡ None) → option_or a (option_or x b) ≡ option_or x (option_or a b)
swapped a None b h = refl
swapped a (Some st) b h = ap (λ o. option_or o (Some st)) (h st refl)

here_or_later : (b : Bool) (st : Status) (a x y whole : Option Status) → (b ≡ true → a ≡ None) → (b ≡ false → option_or a x ≡ option_or y whole) → option_or a (if b then Some st else x) ≡ option_or (if b then Some st else y) whole
here_or_later true st a x y whole here later = ap (λ o. option_or o (Some st)) (here refl)
here_or_later false st a x y whole here later = later refl

-- the status of a slug, with one more row of a live recipe
status_step : (context : Context) (s : State) (now : ℕ) (slug : List ℕ) (r : Row) (rs front left whole : List Row) → status_of slug whole ≡ option_or (status_of slug front) (status_of slug left) → ((st : Status) → status_of slug (r ∷ rs) ≡ Some st → status_of slug whole ≡ None) → (rest : List Row)
    → (((st : Status) → status_of slug rs ≡ Some st → status_of slug left ≡ None) → status_of slug rest ≡ option_or (status_of slug rs) (status_of slug left)) → status_of slug (front ++ r ∷ rest) ≡ option_or (status_of slug (r ∷ rs)) (status_of slug whole)
status_step context s now slug r rs front left whole parts apart rest later =
    status-append slug front (r ∷ rest)
    ∙ here_or_later (bytes_eq r.slug slug) r.status (status_of slug front) (status_of slug rest) (status_of slug rs) (status_of slug whole)
    (λ e. none_left (status_of slug front) (status_of slug left) (sym parts ∙ apart r.status (ap (λ b. if b then Some r.status else status_of slug rs) e)))
    (λ e. let neither : (st : Status) → status_of slug rs ≡ Some st → option_or (status_of slug front) (status_of slug left) ≡ None = λ st found. sym parts ∙ apart st (ap (λ b. if b then Some r.status else status_of slug rs) e ∙ found) in
    ap (option_or (status_of slug front)) (later (λ st found. none_right (status_of slug front) (status_of slug left) (neither st found)))
    ∙ swapped (status_of slug front) (status_of slug rs) (status_of slug left) (λ st found. none_left (status_of slug front) (status_of slug left) (neither st found)) ∙ ap (option_or (status_of slug rs)) (sym parts))

ended-parts : (context : Context) (s : State) (now : ℕ) (slug : List ℕ) (p : Row → Bool) (qs : List Row)
    → status_of slug (ended_rows context s now qs) ≡ option_or (status_of slug (ended_rows context s now (take_while p qs))) (status_of slug (ended_rows context s now (drop (prefix_len p qs) qs)))
ended-parts context s now slug p qs = ap (status_of slug) (sym (ended-split context s now p qs)) ∙ status-append slug (ended_rows context s now (take_while p qs)) (ended_rows context s now (drop (prefix_len p qs) qs))

-- each slug's status among the merged rows, where nothing stays of the old row of a live recipe
pub status-merged : (context : Context) (s : State) (now : ℕ) (slug : List ℕ) (rs qs : List Row) → ((st : Status) → status_of slug rs ≡ Some st → status_of slug (ended_rows context s now qs) ≡ None)
    → status_of slug (merged context s now rs qs) ≡ option_or (status_of slug rs) (status_of slug (ended_rows context s now qs))
status-merged context s now slug [] qs apart = refl
status-merged context s now slug (r ∷ rs) qs apart =
    status_step context s now slug r rs (ended_rows context s now (take_while (is_below r.slug) qs)) (ended_rows context s now (drop (prefix_len (is_below r.slug) qs) qs)) (ended_rows context s now qs) (ended-parts context s now slug (is_below r.slug) qs) apart
    (merged context s now rs (drop (prefix_len (is_below r.slug) qs) qs)) (λ apart'. status-merged context s now slug rs (drop (prefix_len (is_below r.slug) qs) qs) apart')

-- ---- order

ended_above_at : (context : Context) (s : State) (now : ℕ) (a : List ℕ) (q : Row) (qs : List Row) (o : Option Status) → slug_cmp a q.slug ≡ Less → AreAbove a (slugs_of (ended_rows context s now qs)) → AreAbove a (slugs_of (cons_option (option_map (row_of q.slug) o) (ended_rows context s now qs)))
ended_above_at context s now a q qs None less above = above
ended_above_at context s now a q qs (Some st) less above = (less, above)

ended-above : (context : Context) (s : State) (now : ℕ) (a : List ℕ) (qs : List Row) → AreAbove a (slugs_of qs) → AreAbove a (slugs_of (ended_rows context s now qs))
ended-above context s now a [] above = tt
ended-above context s now a (q ∷ qs) above = ended_above_at context s now a q qs (status_left (recipe_with q.slug s.live) q.status now) above.0 (ended-above context s now a qs above.1)

ended_rise_at : (context : Context) (s : State) (now : ℕ) (q : Row) (qs : List Row) (o : Option Status) → AreAbove q.slug (slugs_of (ended_rows context s now qs)) → Rise (slugs_of (ended_rows context s now qs)) → Rise (slugs_of (cons_option (option_map (row_of q.slug) o) (ended_rows context s now qs)))
unfolding IsStrictlySortedBy
ended_rise_at context s now q qs None above rise = rise
ended_rise_at context s now q qs (Some st) above rise = (above, rise)

ended-rise : (context : Context) (s : State) (now : ℕ) (qs : List Row) → Rise (slugs_of qs) → Rise (slugs_of (ended_rows context s now qs))
unfolding IsStrictlySortedBy
ended-rise context s now [] rise = tt
ended-rise context s now (q ∷ qs) rise = ended_rise_at context s now q qs (status_left (recipe_with q.slug s.live) q.status now) (ended-above context s now q.slug qs rise.0) (ended-rise context s now qs rise.1)

-- every row is below the slug
abbrev AreRowsBelow : List ℕ → List Row → Type 0
AreRowsBelow t qs = AllByRecursion (λ (q : Row). slug_cmp q.slug t ≡ Less) qs

taken_below_at : (t : List ℕ) (q : Row) (qs : List Row) (b : Bool) → is_below t q ≡ b → AreRowsBelow t (take_while (is_below t) qs) → AreRowsBelow t (take_while (is_below t) (q ∷ qs))
taken_below_at t q qs true e rest = subst (AreRowsBelow t) (sym (passed-taken (is_below t) q qs e)) (is_Less (slug_cmp q.slug t) e, rest)
taken_below_at t q qs false e rest = subst (AreRowsBelow t) (sym (stopped-taken (is_below t) q qs e)) tt

taken-below : (t : List ℕ) (qs : List Row) → AreRowsBelow t (take_while (is_below t) qs)
taken-below t [] = tt
taken-below t (q ∷ qs) = taken_below_at t q qs (is_below t q) refl (taken-below t qs)

ended_below_at : (context : Context) (s : State) (now : ℕ) (t : List ℕ) (q : Row) (qs : List Row) (o : Option Status) → slug_cmp q.slug t ≡ Less → AreRowsBelow t (ended_rows context s now qs) → AreRowsBelow t (cons_option (option_map (row_of q.slug) o) (ended_rows context s now qs))
ended_below_at context s now t q qs None less below = below
ended_below_at context s now t q qs (Some st) less below = (less, below)

ended-below : (context : Context) (s : State) (now : ℕ) (t : List ℕ) (qs : List Row) → AreRowsBelow t qs → AreRowsBelow t (ended_rows context s now qs)
ended-below context s now t [] below = tt
ended-below context s now t (q ∷ qs) below = ended_below_at context s now t q qs (status_left (recipe_with q.slug s.live) q.status now) below.0 (ended-below context s now t qs below.1)

-- no row is below the slug
abbrev AreRowsFrom : List ℕ → List Row → Type 0
AreRowsFrom t qs = AllByRecursion (λ (q : Row). is_below t q ≡ false) qs

from_above : (t u v : List ℕ) (o p : Ordering) → slug_cmp u t ≡ o → slug_cmp v t ≡ p → slug_cmp u v ≡ Less → is_lt o ≡ false → is_lt p ≡ false
from_above t u v Less p e f less from = absurd cc
from_above t u v Equal Less e f less from = absurd (let same : u ≡ t = same_texts u t e in let up : slug_cmp t v ≡ Less = subst (λ w. slug_cmp w v ≡ Less) same less in let down : slug_cmp t v ≡ Greater = turned_up v t f in cc)
from_above t u v Greater Less e f less from = absurd (let up : slug_cmp t v ≡ Less = less_trans t u v (turned_down u t e) less in let down : slug_cmp t v ≡ Greater = turned_up v t f in cc)
from_above t u v Equal Equal e f less from = refl
from_above t u v Equal Greater e f less from = refl
from_above t u v Greater Equal e f less from = refl
from_above t u v Greater Greater e f less from = refl

later-from : (t : List ℕ) (u : List ℕ) (qs : List Row) → is_lt (slug_cmp u t) ≡ false → AreAbove u (slugs_of qs) → AreRowsFrom t qs
later-from t u [] from above = tt
later-from t u (q ∷ qs) from above = (from_above t u q.slug (slug_cmp u t) (slug_cmp q.slug t) refl refl above.0 from, later-from t u qs from above.1)

-- rows in order, of which those below the slug are taken
record IsLeft (t : List ℕ) (qs : List Row) : Type 0 where
  rise : Rise (slugs_of qs)
  from : AreRowsFrom t qs

left_at : (t : List ℕ) (q : Row) (qs : List Row) (b : Bool) → is_below t q ≡ b → Rise (slugs_of (q ∷ qs)) → IsLeft t (drop (prefix_len (is_below t) qs) qs) → IsLeft t (drop (prefix_len (is_below t) (q ∷ qs)) (q ∷ qs))
unfolding IsStrictlySortedBy
left_at t q qs true e rise rest = subst (IsLeft t) (sym (passed-left (is_below t) q qs e)) rest
left_at t q qs false e rise rest = subst (IsLeft t) (sym (stopped-left (is_below t) q qs e)) (record { rise = rise; from = (e, later-from t q.slug qs e rise.0) })

is-left : (t : List ℕ) (qs : List Row) → Rise (slugs_of qs) → IsLeft t (drop (prefix_len (is_below t) qs) qs)
unfolding IsStrictlySortedBy
is-left t [] rise = record { rise = rise; from = tt }
is-left t (q ∷ qs) rise = left_at t q qs (is_below t q) refl rise (is-left t qs rise.1)

ended_from_at : (context : Context) (s : State) (now : ℕ) (t : List ℕ) (q : Row) (qs : List Row) (o : Option Status) → is_below t q ≡ false → AreRowsFrom t (ended_rows context s now qs) → AreRowsFrom t (cons_option (option_map (row_of q.slug) o) (ended_rows context s now qs))
ended_from_at context s now t q qs None from rest = rest
ended_from_at context s now t q qs (Some st) from rest = (from, rest)

ended-from : (context : Context) (s : State) (now : ℕ) (t : List ℕ) (qs : List Row) → AreRowsFrom t qs → AreRowsFrom t (ended_rows context s now qs)
ended-from context s now t [] from = tt
ended-from context s now t (q ∷ qs) from = ended_from_at context s now t q qs (status_left (recipe_with q.slug s.live) q.status now) from.0 (ended-from context s now t qs from.1)

above_from_at : (t : List ℕ) (q : Row) (o : Ordering) (found : Option Status) → slug_cmp q.slug t ≡ o → is_lt o ≡ false → (if bytes_eq q.slug t then Some q.status else found) ≡ None → (slug_cmp t q.slug ≡ Less) × (found ≡ None)
above_from_at t q Less found e from none = absurd cc
above_from_at t q Equal found e from none = absurd (let some : (if bytes_eq q.slug t then Some q.status else found) ≡ Some q.status = ap (λ b. if b then Some q.status else found) (equal_texts q.slug t e) in cc)
above_from_at t q Greater found e from none = (turned_down q.slug t e, sym (ap (λ b. if b then Some q.status else found) (greater_texts q.slug t e)) ∙ none)

-- rows that aren't below a slug, and of which none has it, are above it
above-from : (t : List ℕ) (qs : List Row) → AreRowsFrom t qs → status_of t qs ≡ None → AreAbove t (slugs_of qs)
above-from t [] from none = tt
above-from t (q ∷ qs) from none = let here = above_from_at t q (slug_cmp q.slug t) (status_of t qs) refl from.0 none in (here.0, above-from t qs from.1 here.1)

above-joined : (a : List ℕ) (xs : List Row) (r : Row) (ys : List Row) → AreAbove a (slugs_of xs) → slug_cmp a r.slug ≡ Less → AreAbove a (slugs_of ys) → AreAbove a (slugs_of (xs ++ r ∷ ys))
above-joined a [] r ys one here rest = (here, rest)
above-joined a (x ∷ xs) r ys one here rest = (one.0, above-joined a xs r ys one.1 here rest)

rise-joined : (xs : List Row) (r : Row) (ys : List Row) → Rise (slugs_of xs) → AreRowsBelow r.slug xs → AreAbove r.slug (slugs_of ys) → Rise (slugs_of ys) → Rise (slugs_of (xs ++ r ∷ ys))
unfolding IsStrictlySortedBy
rise-joined [] r ys rise below above rest = (above, rest)
rise-joined (x ∷ xs) r ys rise below above rest = (above-joined x.slug xs r ys rise.0 below.0 (above_trans x.slug r.slug (slugs_of ys) below.0 above), rise-joined xs r ys rise.1 below.1 above rest)

above-merged : (context : Context) (s : State) (now : ℕ) (a : List ℕ) (rs qs : List Row) → AreAbove a (slugs_of rs) → AreAbove a (slugs_of (ended_rows context s now qs)) → AreAbove a (slugs_of (merged context s now rs qs))
above-merged context s now a [] qs above rest = rest
above-merged context s now a (r ∷ rs) qs above rest =
    let p = is_below r.slug in
    let both = subst (λ xs. AreAbove a (slugs_of xs)) (sym (ended-split context s now p qs)) rest in
    above-joined a (ended_rows context s now (take_while p qs)) r (merged context s now rs (drop (prefix_len p qs) qs)) (above_front slug_of a (ended_rows context s now (take_while p qs)) (ended_rows context s now (drop (prefix_len p qs) qs)) both) above.0
    (above-merged context s now a rs (drop (prefix_len p qs) qs) above.1 (above_behind slug_of a (ended_rows context s now (take_while p qs)) (ended_rows context s now (drop (prefix_len p qs) qs)) both))

-- nothing stays of the old row of any of these rows
abbrev pub AreGone : Context → State → ℕ → List Row → List Row → Type 0
AreGone context s now rs qs = AllByRecursion (λ (r : Row). status_of r.slug (ended_rows context s now qs) ≡ None) rs

gone_left : (context : Context) (s : State) (now : ℕ) (p : Row → Bool) (rs qs : List Row) → AreGone context s now rs qs → AreGone context s now rs (drop (prefix_len p qs) qs)
gone_left context s now p [] qs gone = tt
gone_left context s now p (r ∷ rs) qs gone = (
  none_right (status_of r.slug (ended_rows context s now (take_while p qs))) (status_of r.slug (ended_rows context s now (drop (prefix_len p qs) qs)))
      (sym (status-append r.slug (ended_rows context s now (take_while p qs)) (ended_rows context s now (drop (prefix_len p qs) qs))) ∙ ap (status_of r.slug) (ended-split context s now p qs) ∙ gone.0),
  gone_left context s now p rs qs gone.1,
)

-- the merged rows are in order
pub rise-merged : (context : Context) (s : State) (now : ℕ) (rs qs : List Row) → Rise (slugs_of rs) → Rise (slugs_of qs) → AreGone context s now rs qs → Rise (slugs_of (merged context s now rs qs))
unfolding IsStrictlySortedBy
rise-merged context s now [] qs rise rise' gone = ended-rise context s now qs rise'
rise-merged context s now (r ∷ rs) qs rise rise' gone =
    let p = is_below r.slug in
    let front = take_while p qs in
    let left = drop (prefix_len p qs) qs in
    let rest = is-left r.slug qs rise' in
    let gone' = gone_left context s now p (r ∷ rs) qs gone in
    let above = above-from r.slug (ended_rows context s now left) (ended-from context s now r.slug left rest.from) gone'.0 in
    rise-joined (ended_rows context s now front) r (merged context s now rs left) (ended-rise context s now front (front_rises slug_of front left (subst (λ xs. Rise (slugs_of xs)) (sym (split p qs)) rise'))) (ended-below context s now r.slug front (taken-below r.slug qs))
    (above-merged context s now r.slug rs left rise.0 above) (rise-merged context s now rs left rise.1 rest.rise gone'.1)

-- ---- what stays of a slug

ended_status_at : (context : Context) (s : State) (now : ℕ) (slug : List ℕ) (q : Row) (qs : List Row) (b : Bool) (o : Option Status) → bytes_eq q.slug slug ≡ b → status_left (recipe_with q.slug s.live) q.status now ≡ o → AreAbove q.slug (slugs_of qs)
    → status_of slug (ended_rows context s now qs) ≡ option_and_then (λ st. status_left (recipe_with slug s.live) st now) (status_of slug qs)
    → status_of slug (cons_option (option_map (row_of q.slug) o) (ended_rows context s now qs)) ≡ option_and_then (λ st. status_left (recipe_with slug s.live) st now) (if b then Some q.status else status_of slug qs)
ended_status_at context s now slug q qs true None e left above rest =
    let same : q.slug ≡ slug = (bytes_decides q.slug slug).0 e in
    rest ∙ ap (option_and_then (λ st. status_left (recipe_with slug s.live) st now)) (no_status slug qs (subst (λ t. AreAbove t (slugs_of qs)) same above)) ∙ sym left ∙ ap (λ t. status_left (recipe_with t s.live) q.status now) same
ended_status_at context s now slug q qs true (Some st) e left above rest =
    let same : q.slug ≡ slug = (bytes_decides q.slug slug).0 e in
    ap (λ b. if b then Some st else status_of slug (ended_rows context s now qs)) e ∙ sym left ∙ ap (λ t. status_left (recipe_with t s.live) q.status now) same
ended_status_at context s now slug q qs false None e left above rest = rest
ended_status_at context s now slug q qs false (Some st) e left above rest = ap (λ b. if b then Some st else status_of slug (ended_rows context s now qs)) e ∙ rest

pub status-ended : (context : Context) (s : State) (now : ℕ) (slug : List ℕ) (qs : List Row) → Rise (slugs_of qs) → status_of slug (ended_rows context s now qs) ≡ option_and_then (λ st. status_left (recipe_with slug s.live) st now) (status_of slug qs)
unfolding IsStrictlySortedBy
status-ended context s now slug [] rise = refl
status-ended context s now slug (q ∷ qs) rise = ended_status_at context s now slug q qs (bytes_eq q.slug slug) (status_left (recipe_with q.slug s.live) q.status now) refl refl rise.0 (status-ended context s now slug qs rise.1)
