-- The plan of an apply: an entry for each live recipe, and the wishes among them.
use Rattle.std.proofs.Common.{◌≡◌, ℕ, zero, suc, ◌+◌, ◌<◌, Bool, true, false, List, [], ◌∷◌, ◌++◌, length, map, get_or, take, cond, Less, refl, sym, ap, ap₂, ◌∙◌, subst, arith}
use Rattle.std.specs.Prelude.{filter}
use Rattle.std.specs.List.Sorted.{IsStrictlySortedBy}
use Rattle.std.proofs.lemmas.List.{take_more, map-append}
use Rattle.std.proofs.lemmas.List.Elements.{filter-append}
use Rattle.recipe_reader.specs.Payloads as payloads
use Rattle.recipe_reader.specs.Payloads.{slug_cmp, AreInOrder, AreValid}
use Rattle.recipe_reader.specs.Records.{IsValid}
use Rattle.recipe_reader.specs.declared.recipe.Recipe.{Recipe}
use Rattle.app_context.specs.declared.context.Context.{Context}
use Rattle.enrol_states.specs.Order.{Rise, AreAbove}
use Rattle.enrol_states.specs.State.{status_of}
use Rattle.enrol_states.specs.Statuses.{is_enrolled_now}
use Rattle.enrol_states.specs.declared.state.State.{State}
use Rattle.enrol_states.specs.declared.state.Row.{Row}
use Rattle.enrol_conflicts.specs.Settlement.{SlugsRise}
use Rattle.enrol_conflicts.specs.declared.candidate.Candidate.{Candidate}
use Rattle.enrol_evolver.specs.Wishes.{candidate_of, entry_of, is_wish, outcome_of, wishes_among, wishes_of, grants_of, row_of, settled_row}
use Rattle.enrol_evolver.specs.Evolution.{live_rows, new_status}
use Rattle.enrol_evolver.specs.declared.plan.Entry.{Entry}
use Rattle.enrol_evolver.proofs.SettledRows.{entry_slugs, wish_slugs, wishes_in}

-- ---- one recipe more

pub entries-more : (context : Context) (s : State) (now : ℕ) (rs : List Recipe) (i : ℕ) (r : Recipe) (es fs : List Entry) → i < length rs → r ≡ get_or rs i r → es ≡ map (entry_of context s now) (take i rs) → fs ≡ es ++ entry_of context s now r ∷ [] → fs ≡ map (entry_of context s now) (take (i + 1) rs)
entries-more context s now rs i r es fs less here before more =
    more ∙ ap₂ (λ (l : List Entry) (q : Recipe). l ++ entry_of context s now q ∷ []) before here
    ∙ sym (ap (map (entry_of context s now)) (take_more rs i r less) ∙ map-append (entry_of context s now) (take i rs) (get_or rs i r ∷ []))

wishes-append : (context : Context) (s : State) (now : ℕ) (xs ys : List Recipe) → wishes_among context s now (xs ++ ys) ≡ wishes_among context s now xs ++ wishes_among context s now ys
wishes-append context s now xs ys =
    let wish : Recipe → Candidate = λ r. candidate_of (is_enrolled_now (status_of r.slug s.rows)) r in
    let p : Recipe → Bool = λ r. is_wish (outcome_of context s now r) in
    ap (map wish) (filter-append p xs ys) ∙ map-append wish (filter p xs) (filter p ys)

pub wishes-more : (context : Context) (s : State) (now : ℕ) (rs : List Recipe) (i : ℕ) (r : Recipe) (ws vs : List Candidate) → i < length rs → r ≡ get_or rs i r → ws ≡ wishes_among context s now (take i rs) → vs ≡ ws ++ wishes_among context s now (r ∷ []) → vs ≡ wishes_among context s now (take (i + 1) rs)
wishes-more context s now rs i r ws vs less here before more =
    more ∙ ap₂ (λ (l : List Candidate) (q : Recipe). l ++ wishes_among context s now (q ∷ [])) before here
    ∙ sym (ap (wishes_among context s now) (take_more rs i r less) ∙ wishes-append context s now (take i rs) (get_or rs i r ∷ []))

pub valid-at : (rs : List Recipe) (i : ℕ) (r : Recipe) → i < length rs → r ≡ get_or rs i r → AreValid rs → IsValid r
valid-at [] i r less here valid = absurd (omega arith)
valid-at (q ∷ qs) zero r less here valid = subst IsValid (sym here) valid.0
valid-at (q ∷ qs) (suc i) r less here valid = valid-at qs i r (omega arith) here valid.1

-- ---- the plan's order

slugs_above : (context : Context) (s : State) (now : ℕ) (a : List ℕ) (rs : List Recipe) → payloads.AreAbove a rs → AreAbove a (entry_slugs (map (entry_of context s now) rs))
slugs_above context s now a [] above = tt
slugs_above context s now a (r ∷ rs) above = (above.0, slugs_above context s now a rs above.1)

pub entries-rise : (context : Context) (s : State) (now : ℕ) (rs : List Recipe) → AreInOrder rs → Rise (entry_slugs (map (entry_of context s now) rs))
unfolding IsStrictlySortedBy
entries-rise context s now [] order = tt
entries-rise context s now (r ∷ rs) order = (slugs_above context s now r.slug rs order.0, entries-rise context s now rs order.1)

wish_at : (b : Bool) (f : Recipe → Candidate) (g : Recipe → Entry) (r : Recipe) (qs : List Recipe) (es : List Entry) → (f r).slug ≡ (g r).slug → wish_slugs (map f qs) ≡ entry_slugs es → wish_slugs (map f (cond b (r ∷ qs) qs)) ≡ entry_slugs (cond b (g r ∷ es) es)
wish_at true f g r qs es same rest = ap₂ (λ (t : List ℕ) (ts : List (List ℕ)). t ∷ ts) same rest
wish_at false f g r qs es same rest = rest

-- the wishes are those of the entries
pub wishes-own : (context : Context) (s : State) (now : ℕ) (rs : List Recipe) → wish_slugs (wishes_among context s now rs) ≡ entry_slugs (wishes_in (map (entry_of context s now) rs))
wishes-own context s now [] = refl
wishes-own context s now (r ∷ rs) =
    wish_at (is_wish (outcome_of context s now r)) (λ q. candidate_of (is_enrolled_now (status_of q.slug s.rows)) q) (entry_of context s now) r (filter (λ q. is_wish (outcome_of context s now q)) rs) (wishes_in (map (entry_of context s now) rs)) refl (wishes-own context s now rs)

kept_above : (a : List ℕ) (b : Bool) (f : Recipe → Candidate) (r : Recipe) (rest : List Recipe) → (f r).slug ≡ r.slug → slug_cmp a r.slug ≡ Less → AreAbove a (wish_slugs (map f rest)) → AreAbove a (wish_slugs (map f (cond b (r ∷ rest) rest)))
kept_above a true f r rest same less above = (subst (λ t. slug_cmp a t ≡ Less) (sym same) less, above)
kept_above a false f r rest same less above = above

filter_above : (a : List ℕ) (p : Recipe → Bool) (f : Recipe → Candidate) (rs : List Recipe) → ((r : Recipe) → (f r).slug ≡ r.slug) → payloads.AreAbove a rs → AreAbove a (wish_slugs (map f (filter p rs)))
filter_above a p f [] same above = tt
filter_above a p f (r ∷ rs) same above = kept_above a (p r) f r (filter p rs) (same r) above.0 (filter_above a p f rs same above.1)

kept_rise : (b : Bool) (f : Recipe → Candidate) (r : Recipe) (rest : List Recipe) → (f r).slug ≡ r.slug → AreAbove r.slug (wish_slugs (map f rest)) → Rise (wish_slugs (map f rest)) → Rise (wish_slugs (map f (cond b (r ∷ rest) rest)))
unfolding IsStrictlySortedBy
kept_rise true f r rest same above rise = (subst (λ t. AreAbove t (wish_slugs (map f rest))) (sym same) above, rise)
kept_rise false f r rest same above rise = rise

filter_rise : (p : Recipe → Bool) (f : Recipe → Candidate) (rs : List Recipe) → ((r : Recipe) → (f r).slug ≡ r.slug) → AreInOrder rs → Rise (wish_slugs (map f (filter p rs)))
unfolding IsStrictlySortedBy
filter_rise p f [] same order = tt
filter_rise p f (r ∷ rs) same order = kept_rise (p r) f r (filter p rs) (same r) (filter_above r.slug p f rs same order.0) (filter_rise p f rs same order.1)

pub wishes-rise : (context : Context) (s : State) (now : ℕ) → AreInOrder s.live → SlugsRise (wishes_of context s now)
wishes-rise context s now order = filter_rise (λ r. is_wish (outcome_of context s now r)) (λ r. candidate_of (is_enrolled_now (status_of r.slug s.rows)) r) s.live (λ r. refl) order

-- ---- the rows of a settled plan

settled_live : (context : Context) (s : State) (now : ℕ) (rs : List Recipe) → map (settled_row (wishes_of context s now) (grants_of (wishes_of context s now) s.coenrolling)) (map (entry_of context s now) rs) ≡ map (λ (r : Recipe). row_of r.slug (new_status context s now r)) rs
settled_live context s now [] = refl
settled_live context s now (r ∷ rs) = ap (λ (rows : List Row). row_of r.slug (new_status context s now r) ∷ rows) (settled_live context s now rs)

-- they are the rows of the live recipes
pub live-settled : (context : Context) (s : State) (now : ℕ) (es : List Entry) (ws : List Candidate) (gs : List Bool) → es ≡ map (entry_of context s now) s.live → ws ≡ wishes_of context s now → gs ≡ grants_of (wishes_of context s now) s.coenrolling
    → map (settled_row ws gs) es ≡ live_rows context s now
live-settled context s now es ws gs entries wishes grants =
    ap (map (settled_row ws gs)) entries ∙ ap₂ (λ (vs : List Candidate) (hs : List Bool). map (settled_row vs hs) (map (entry_of context s now) s.live)) wishes grants ∙ settled_live context s now s.live
