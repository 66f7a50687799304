-- Rows in order as maps from slugs to statuses.
use Rattle.std.proofs.Common.{Ordering, ◌≡◌, ℕ, Bool, true, false, List, [], ◌∷◌, filter_map, Option, None, Some, Less, Equal, Greater, refl, sym, ap, ap₂, ◌∙◌, subst}
use Rattle.std.specs.Prelude.{bytes_eq, ◌||◌, All, fold, option_map, if◌then◌else◌}
use Rattle.std.specs.Ordering.{match_ordering}
use Rattle.std.specs.BTreeSet.{insert_key}
use Rattle.std.specs.List.{AllByRecursion, cons_option}
use Rattle.std.specs.List.Sorted.{IsStrictlySortedBy}
use Rattle.std.specs.Cmp.Lexicographic.{bytes_decides}
use Rattle.std.proofs.lemmas.List.Elements.{All-head, All-tail}
use Rattle.sequences.proofs.Texts.{bytes_same}
use Rattle.recipe_reader.specs.Payloads.{slug_cmp}
use Rattle.enrol_states.specs.Order.{Rise, AreAbove, is_in}
use Rattle.enrol_states.specs.State.{slugs_of, status_of}
use Rattle.enrol_states.specs.declared.state.Row.{Row}
use Rattle.enrol_states.specs.declared.status.Status.{Status}
use Rattle.enrol_states.proofs.Ordered.{same_texts, greater_texts, turned_up, turned_down, above_trans, is_in-above}
use Rattle.enrol_states.proofs.OptOuts.{rise-insert}
use Rattle.enrol_evolver.specs.Wishes.{row_of}

first_status : (r : Row) (rs : List Row) → status_of r.slug (r ∷ rs) ≡ Some r.status
first_status r rs = ap (λ b. if b then Some r.status else status_of r.slug rs) (bytes_same r.slug)

pub no_status : (slug : List ℕ) (qs : List Row) → AreAbove slug (slugs_of qs) → status_of slug qs ≡ None
no_status slug [] above = refl
no_status slug (q ∷ qs) above = ap (λ b. if b then Some q.status else status_of slug qs) (greater_texts q.slug slug (turned_up slug q.slug above.0)) ∙ no_status slug qs above.1

-- ---- rows with the same statuses are the same

apart_at : (q : Row) (qs : List Row) (p : Row) (ps : List Row) → slug_cmp p.slug q.slug ≡ Less → Rise (slugs_of (q ∷ qs)) → status_of p.slug (p ∷ ps) ≡ status_of p.slug (q ∷ qs) → ⊥
unfolding IsStrictlySortedBy
apart_at q qs p ps less rise e =
    let none : status_of p.slug (q ∷ qs) ≡ None = no_status p.slug (q ∷ qs) (less, above_trans p.slug q.slug (slugs_of qs) less rise.0) in
    let some = first_status p ps in
    cc

rest_at : (p q : Row) (ps qs : List Row) (slug : List ℕ) (b : Bool) → bytes_eq p.slug slug ≡ b → p.slug ≡ q.slug → Rise (slugs_of (p ∷ ps)) → Rise (slugs_of (q ∷ qs)) → status_of slug (p ∷ ps) ≡ status_of slug (q ∷ qs) → status_of slug ps ≡ status_of slug qs
unfolding IsStrictlySortedBy
rest_at p q ps qs slug true e same rise rise' h =
    let at : p.slug ≡ slug = (bytes_decides p.slug slug).0 e in
    no_status slug ps (subst (λ t. AreAbove t (slugs_of ps)) at rise.0) ∙ sym (no_status slug qs (subst (λ t. AreAbove t (slugs_of qs)) (sym same ∙ at) rise'.0))
rest_at p q ps qs slug false e same rise rise' h =
    let other : bytes_eq q.slug slug ≡ false = ap (λ t. bytes_eq t slug) (sym same) ∙ e in
    sym (ap (λ b. if b then Some p.status else status_of slug ps) e) ∙ h ∙ ap (λ b. if b then Some q.status else status_of slug qs) other

same_at : (p q : Row) (ps qs : List Row) (o : Ordering) → slug_cmp p.slug q.slug ≡ o → Rise (slugs_of (p ∷ ps)) → Rise (slugs_of (q ∷ qs)) → ((slug : List ℕ) → status_of slug (p ∷ ps) ≡ status_of slug (q ∷ qs))
    → (((slug : List ℕ) → status_of slug ps ≡ status_of slug qs) → ps ≡ qs) → p ∷ ps ≡ q ∷ qs
unfolding IsStrictlySortedBy
same_at p q ps qs Less e rise rise' h rest = absurd (apart_at q qs p ps e rise' (h p.slug))
same_at p q ps qs Greater e rise rise' h rest = absurd (apart_at p ps q qs (turned_down p.slug q.slug e) rise (sym (h q.slug)))
same_at p q ps qs Equal e rise rise' h rest =
    let same : p.slug ≡ q.slug = same_texts p.slug q.slug e in
    let status : p.status ≡ q.status = some_is (sym (first_status p ps) ∙ h p.slug ∙ ap (λ t. status_of t (q ∷ qs)) same ∙ first_status q qs) in
    ap₂ (λ (r : Row) (rs : List Row). r ∷ rs) (ap₂ row_of same status) (rest (λ slug. rest_at p q ps qs slug (bytes_eq p.slug slug) refl same rise rise' (h slug)))
  where
    some_is : {x y : Status} → Some x ≡ Some y → x ≡ y
    some_is e = cc

pub same_rows : (ps qs : List Row) → Rise (slugs_of ps) → Rise (slugs_of qs) → ((slug : List ℕ) → status_of slug ps ≡ status_of slug qs) → ps ≡ qs
unfolding IsStrictlySortedBy
same_rows [] [] rise rise' h = refl
same_rows [] (q ∷ qs) rise rise' h = absurd (let none = h q.slug in let some = first_status q qs in cc)
same_rows (p ∷ ps) [] rise rise' h = absurd (let none = h p.slug in let some = first_status p ps in cc)
same_rows (p ∷ ps) (q ∷ qs) rise rise' h = same_at p q ps qs (slug_cmp p.slug q.slug) refl rise rise' h (λ rest. same_rows ps qs rise.1 rise'.1 rest)

-- ---- what holds of each row

later_at : (P : Row → Type 0) (p : Row) (ps : List Row) (slug : List ℕ) (st : Status) (b : Bool) → bytes_eq p.slug slug ≡ b → AreAbove p.slug (slugs_of ps) → status_of slug ps ≡ Some st → (if b then Some p.status else status_of slug ps) ≡ Some st
later_at P p ps slug st true e above found = absurd (let none : status_of slug ps ≡ None = no_status slug ps (subst (λ t. AreAbove t (slugs_of ps)) ((bytes_decides p.slug slug).0 e) above) in cc)
later_at P p ps slug st false e above found = found

pub rows_where : (P : Row → Type 0) (ps : List Row) → Rise (slugs_of ps) → ((slug : List ℕ) (st : Status) → status_of slug ps ≡ Some st → P (row_of slug st)) → AllByRecursion P ps
unfolding IsStrictlySortedBy
rows_where P [] rise h = tt
rows_where P (p ∷ ps) rise h = (h p.slug p.status (first_status p ps), rows_where P ps rise.1 (λ slug st found. h slug st (later_at P p ps slug st (bytes_eq p.slug slug) refl rise.0 found)))

found_at : (P : Row → Type 0) (p : Row) (ps : List Row) (slug : List ℕ) (st : Status) (b : Bool) → bytes_eq p.slug slug ≡ b → P p → (status_of slug ps ≡ Some st → P (row_of slug st)) → (if b then Some p.status else status_of slug ps) ≡ Some st → P (row_of slug st)
found_at P p ps slug st true e here rest found =
    let same : p.slug ≡ slug = (bytes_decides p.slug slug).0 e in
    let status : p.status ≡ st = cc in
    subst P (ap₂ row_of same status) here
found_at P p ps slug st false e here rest found = rest found

pub row_where : (P : Row → Type 0) (ps : List Row) (slug : List ℕ) (st : Status) → All P ps → status_of slug ps ≡ Some st → P (row_of slug st)
row_where P [] slug st all found = absurd cc
row_where P (p ∷ ps) slug st all found = found_at P p ps slug st (bytes_eq p.slug slug) refl (All-head P p ps all) (row_where P ps slug st (All-tail P p ps all)) found

-- ---- rows of slugs in order, each by bytes_same

abbrev pub row_by : (List ℕ → Option Status) → List ℕ → Option Row
row_by status slug = option_map (row_of slug) (status slug)

above_by : (status : List ℕ → Option Status) (a t : List ℕ) (ts : List (List ℕ)) (o : Option Status) → slug_cmp a t ≡ Less → AreAbove a (slugs_of (filter_map (row_by status) ts)) → AreAbove a (slugs_of (cons_option (option_map (row_of t) o) (filter_map (row_by status) ts)))
above_by status a t ts None less above = above
above_by status a t ts (Some st) less above = (less, above)

rows_above : (status : List ℕ → Option Status) (a : List ℕ) (ts : List (List ℕ)) → AreAbove a ts → AreAbove a (slugs_of (filter_map (row_by status) ts))
rows_above status a [] above = tt
rows_above status a (t ∷ ts) above = above_by status a t ts (status t) above.0 (rows_above status a ts above.1)

rise_by : (status : List ℕ → Option Status) (t : List ℕ) (ts : List (List ℕ)) (o : Option Status) → AreAbove t (slugs_of (filter_map (row_by status) ts)) → Rise (slugs_of (filter_map (row_by status) ts)) → Rise (slugs_of (cons_option (option_map (row_of t) o) (filter_map (row_by status) ts)))
unfolding IsStrictlySortedBy
rise_by status t ts None above rise = rise
rise_by status t ts (Some st) above rise = (above, rise)

pub rows-rise : (status : List ℕ → Option Status) (ts : List (List ℕ)) → Rise ts → Rise (slugs_of (filter_map (row_by status) ts))
unfolding IsStrictlySortedBy
rows-rise status [] rise = tt
rows-rise status (t ∷ ts) rise = rise_by status t ts (status t) (rows_above status t ts rise.0) (rows-rise status ts rise.1)

status_by : (status : List ℕ → Option Status) (t slug : List ℕ) (ts : List (List ℕ)) (o : Option Status) (b : Bool) → status t ≡ o → bytes_eq t slug ≡ b → AreAbove t ts → status_of slug (filter_map (row_by status) ts) ≡ (if is_in ts slug then status slug else None)
    → status_of slug (cons_option (option_map (row_of t) o) (filter_map (row_by status) ts)) ≡ (if b || is_in ts slug then status slug else None)
status_by status t slug ts None true e same above rest =
    let at : t ≡ slug = (bytes_decides t slug).0 same in
    rest ∙ ap (λ b. if b then status slug else None) (is_in-above slug ts (subst (λ u. AreAbove u ts) at above)) ∙ sym (ap status (sym at) ∙ e)
status_by status t slug ts None false e same above rest = rest
status_by status t slug ts (Some st) true e same above rest =
    let at : t ≡ slug = (bytes_decides t slug).0 same in
    ap (λ b. if b then Some st else status_of slug (filter_map (row_by status) ts)) same ∙ sym (ap status (sym at) ∙ e)
status_by status t slug ts (Some st) false e same above rest = ap (λ b. if b then Some st else status_of slug (filter_map (row_by status) ts)) same ∙ rest

pub status-rows : (status : List ℕ → Option Status) (slug : List ℕ) (ts : List (List ℕ)) → Rise ts → status_of slug (filter_map (row_by status) ts) ≡ (if is_in ts slug then status slug else None)
unfolding IsStrictlySortedBy
status-rows status slug [] rise = refl
status-rows status slug (t ∷ ts) rise = status_by status t slug ts (status t) (bytes_eq t slug) refl refl rise.0 (status-rows status slug ts rise.1)

-- ---- more texts

pub rise-fold : (ts us : List (List ℕ)) → Rise ts → Rise (fold (insert_key slug_cmp) ts us)
rise-fold ts [] rise = rise
rise-fold ts (u ∷ us) rise = rise-fold (insert_key slug_cmp ts u) us (rise-insert u ts rise)

twice : (a b : Bool) → (a || b) ≡ (a || (a || b))
twice true b = refl
twice false b = refl

swapped : (a b c : Bool) → (a || (b || c)) ≡ (b || (a || c))
swapped true true c = refl
swapped true false c = refl
swapped false true c = refl
swapped false false c = refl

in_at : (s t u : List ℕ) (ts : List (List ℕ)) (o : Ordering) → slug_cmp s t ≡ o → is_in (insert_key slug_cmp ts s) u ≡ (bytes_eq s u || is_in ts u) → is_in (match_ordering o (s ∷ t ∷ ts) (t ∷ ts) (t ∷ insert_key slug_cmp ts s)) u ≡ (bytes_eq s u || is_in (t ∷ ts) u)
in_at s t u ts Less e rest = refl
in_at s t u ts Equal e rest = ap (λ x. bytes_eq x u || is_in ts u) (sym (same_texts s t e)) ∙ twice (bytes_eq s u) (is_in ts u) ∙ ap (λ x. bytes_eq s u || (bytes_eq x u || is_in ts u)) (same_texts s t e)
in_at s t u ts Greater e rest = ap (λ b. bytes_eq t u || b) rest ∙ swapped (bytes_eq t u) (bytes_eq s u) (is_in ts u)

in-insert : (s u : List ℕ) (ts : List (List ℕ)) → is_in (insert_key slug_cmp ts s) u ≡ (bytes_eq s u || is_in ts u)
in-insert s u [] = refl
in-insert s u (t ∷ ts) = in_at s t u ts (slug_cmp s t) refl (in-insert s u ts)

pub in-fold : (ts us : List (List ℕ)) (u : List ℕ) → is_in (fold (insert_key slug_cmp) ts us) u ≡ (is_in us u || is_in ts u)
in-fold ts [] u = refl
in-fold ts (t ∷ us) u = in-fold (insert_key slug_cmp ts t) us u ∙ ap (λ b. is_in us u || b) (in-insert t u ts) ∙ joined (is_in us u) (bytes_eq t u) (is_in ts u) where
  joined : (a b c : Bool) → (a || (b || c)) ≡ ((b || a) || c)
  joined true true c = refl
  joined true false c = refl
  joined false true c = refl
  joined false false c = refl
