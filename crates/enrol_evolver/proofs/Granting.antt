-- Recipes in which the client is enrolled after an apply share no feature that may not be shared.
use Rattle.std.proofs.Common.{◌≡◌, ◌≢◌, ℕ, zero, suc, Bool, true, false, List, [], ◌∷◌, ◌++◌, map, cond, slice_get, Option, None, Some, Contains, refl, sym, ap, ap₂, ◌∙◌, subst}
use Rattle.std.specs.Prelude.{fold, bytes_eq, ◌||◌, ◌&&◌, not, filter, IsTrue, if◌then◌else◌}
use Rattle.std.specs.List.{list_any, flat_map}
use Rattle.std.specs.Cmp.Lexicographic.{bytes_decides}
use Rattle.std.proofs.Math.Bool.{or_assoc}
use Rattle.recipe_reader.specs.Payloads as payloads
use Rattle.recipe_reader.specs.Payloads.{AreInOrder, AreValid, recipe_with}
use Rattle.recipe_reader.specs.Records.{IsValid}
use Rattle.recipe_reader.specs.Kinds.{kind_of, kind_eq}
use Rattle.recipe_reader.proofs.SameKind.{kind_Decides}
use Rattle.recipe_reader.specs.declared.recipe.Recipe.{Recipe}
use Rattle.recipe_reader.specs.declared.recipe.Branch.{Branch}
use Rattle.recipe_reader.specs.declared.recipe.FeatureValue.{FeatureValue}
use Rattle.app_context.specs.declared.context.Context.{Context}
use Rattle.enrol_states.specs.Order.{Rise, is_in}
use Rattle.enrol_states.specs.State.{slugs_of, status_of}
use Rattle.enrol_states.specs.Recipes.{has_feature, sets, share}
use Rattle.enrol_states.specs.Exclusive.{AreExclusive}
use Rattle.enrol_states.specs.Statuses.{IsStatus, is_enrolled_now}
use Rattle.enrol_states.specs.declared.state.State.{State}
use Rattle.enrol_states.specs.declared.state.Row.{Row}
use Rattle.enrol_states.specs.declared.status.Status.{Status}
use Rattle.enrol_states.proofs.Ordered.{greater_texts, turned_up}
use Rattle.enrol_states.proofs.Exclusion.{found_slug}
use Rattle.enrol_conflicts.specs.declared.candidate.Candidate.{Candidate}
use Rattle.enrol_conflicts.proofs.Exclusion.{exclusive, Contains-is_in, is_in-Contains}
use Rattle.enrol_evolver.specs.Verdicts.{is_out}
use Rattle.enrol_evolver.specs.Wishes.{with_once, features_of, candidate_of, outcome_of, is_wish, wishes_of, grants_of, is_granted}
use Rattle.enrol_evolver.specs.Evolution.{is_slug_granted, status_with, rows_after, with_new_rows}
use Rattle.enrol_evolver.proofs.Evolved.{settled_grants, status-after}
use Rattle.enrol_evolver.proofs.Fitness.{IsOld, outcome-fits, enrolled-granted}

-- ---- features

among-append : (f : List ℕ) (xs ys : List (List ℕ)) → is_in (xs ++ ys) f ≡ (is_in xs f || is_in ys f)
among-append f [] ys = refl
among-append f (x ∷ xs) ys = ap (λ b. bytes_eq x f || b) (among-append f xs ys) ∙ together (bytes_eq x f) (is_in xs f) (is_in ys f) where
  together : (a b c : Bool) → (a || (b || c)) ≡ ((a || b) || c)
  together true b c = refl
  together false b c = refl

among-values : (f : List ℕ) (vs : List FeatureValue) → is_in (map (λ (v : FeatureValue). v.feature) vs) f ≡ list_any (λ (v : FeatureValue). bytes_eq v.feature f) vs
among-values f [] = refl
among-values f (v ∷ vs) = ap (λ b. bytes_eq v.feature f || b) (among-values f vs)

among-branches : (f : List ℕ) (bs : List Branch) → is_in (flat_map (λ (b : Branch). map (λ (v : FeatureValue). v.feature) b.features) bs) f ≡ list_any (λ (b : Branch). sets b f) bs
among-branches f [] = refl
among-branches f (b ∷ bs) =
    among-append f (map (λ (v : FeatureValue). v.feature) b.features) (flat_map (λ (d : Branch). map (λ (v : FeatureValue). v.feature) d.features) bs) ∙ ap₂ (λ x y. x || y) (among-values f b.features) (among-branches f bs)

once_at : (f t : List ℕ) (ts : List (List ℕ)) (b : Bool) → bytes_eq t f ≡ b → is_in ts t ≡ true → is_in ts f ≡ (is_in ts f || b)
once_at f t ts true e there = let same : t ≡ f = (bytes_decides t f).0 e in let here : is_in ts f ≡ true = subst (λ u. is_in ts u ≡ true) same there in here ∙ sym (ap (λ b. b || true) here)
once_at f t ts false e there = none_more (is_in ts f) where
  none_more : (a : Bool) → a ≡ (a || false)
  none_more true = refl
  none_more false = refl

none_after : (b : Bool) → (b || false) ≡ b
none_after true = refl
none_after false = refl

-- one text more
pub more-texts : (f t : List ℕ) (ts : List (List ℕ)) → is_in (ts ++ t ∷ []) f ≡ (is_in ts f || bytes_eq t f)
more-texts f t ts = among-append f ts (t ∷ []) ∙ ap (λ b. is_in ts f || b) (none_after (bytes_eq t f))

once_by : (f t : List ℕ) (ts : List (List ℕ)) (b : Bool) → is_in ts t ≡ b → is_in (if b then ts else ts ++ t ∷ []) f ≡ (is_in ts f || bytes_eq t f)
once_by f t ts true e = once_at f t ts (bytes_eq t f) refl e
once_by f t ts false e = more-texts f t ts

among-once : (f t : List ℕ) (ts : List (List ℕ)) → is_in (with_once ts t) f ≡ (is_in ts f || bytes_eq t f)
among-once f t ts = once_by f t ts (is_in ts t) refl

-- to have each text once is to have the same texts
among-fold : (f : List ℕ) (ts acc : List (List ℕ)) → is_in (fold with_once acc ts) f ≡ (is_in acc f || is_in ts f)
among-fold f [] acc = sym (none_after (is_in acc f))
among-fold f (t ∷ ts) acc = among-fold f ts (with_once acc t) ∙ ap (λ b. b || is_in ts f) (among-once f t acc) ∙ or_assoc (is_in acc f) (bytes_eq t f) (is_in ts f)

among-features : (f : List ℕ) (r : Recipe) → is_in (features_of r) f ≡ has_feature r f
among-features f r = among-fold f (flat_map (λ (b : Branch). map (λ (v : FeatureValue). v.feature) b.features) r.branches) [] ∙ among-branches f r.branches

-- ---- granted wishes

record IsGrant (ws : List Candidate) (gs : List Bool) (slug : List ℕ) : Type 0 where
  place : ℕ
  wish : Candidate
  here : slice_get ws place ≡ Some wish
  granted : slice_get gs place ≡ Some true
  same : wish.slug ≡ slug

grant_at : (w : Candidate) (ws : List Candidate) (g : Bool) (gs : List Bool) (slug : List ℕ) (b : Bool) → bytes_eq w.slug slug ≡ b → ((g && b) || is_granted ws gs slug) ≡ true → (is_granted ws gs slug ≡ true → IsGrant ws gs slug) → IsGrant (w ∷ ws) (g ∷ gs) slug
grant_at w ws true gs slug true e h rest = record { place = 0; wish = w; here = refl; granted = refl; same = (bytes_decides w.slug slug).0 e }
grant_at w ws true gs slug false e h rest = let p = rest h in record { place = suc p.place; wish = p.wish; here = p.here; granted = p.granted; same = p.same }
grant_at w ws false gs slug b e h rest = let p = rest h in record { place = suc p.place; wish = p.wish; here = p.here; granted = p.granted; same = p.same }

grant_of : (ws : List Candidate) (gs : List Bool) (slug : List ℕ) → is_granted ws gs slug ≡ true → IsGrant ws gs slug
grant_of [] gs slug h = absurd cc
grant_of (w ∷ ws) [] slug h = absurd cc
grant_of (w ∷ ws) (g ∷ gs) slug h = grant_at w ws g gs slug (bytes_eq w.slug slug) refl h (grant_of ws gs slug)

-- ---- the recipe of a wish

no_recipe : (slug : List ℕ) (rs : List Recipe) → payloads.AreAbove slug rs → recipe_with slug rs ≡ None
no_recipe slug [] above = refl
no_recipe slug (r ∷ rs) above = ap (λ b. if b then Some r else recipe_with slug rs) (greater_texts r.slug slug (turned_up slug r.slug above.0)) ∙ no_recipe slug rs above.1

later_at : (r : Recipe) (rs : List Recipe) (slug : List ℕ) (q : Recipe) (b : Bool) → bytes_eq r.slug slug ≡ b → payloads.AreAbove r.slug rs → recipe_with slug rs ≡ Some q → (if b then Some r else recipe_with slug rs) ≡ Some q
later_at r rs slug q true e above found = absurd (let none : recipe_with slug rs ≡ None = no_recipe slug rs (subst (λ t. payloads.AreAbove t rs) ((bytes_decides r.slug slug).0 e) above) in cc)
later_at r rs slug q false e above found = found

record IsWishOf (f : Recipe → Candidate) (rs : List Recipe) (w : Candidate) : Type 0 where
  recipe : Recipe
  wish : w ≡ f recipe
  found : recipe_with recipe.slug rs ≡ Some recipe

later : (f : Recipe → Candidate) (r : Recipe) (rs : List Recipe) (w : Candidate) → payloads.AreAbove r.slug rs → IsWishOf f rs w → IsWishOf f (r ∷ rs) w
later f r rs w above h = record { recipe = h.recipe; wish = h.wish; found = later_at r rs h.recipe.slug h.recipe (bytes_eq r.slug h.recipe.slug) refl above h.found }

wish_at : (f : Recipe → Candidate) (p : Recipe → Bool) (r : Recipe) (rs : List Recipe) (i : ℕ) (w : Candidate) (b : Bool) → payloads.AreAbove r.slug rs → ((k : ℕ) → slice_get (map f (filter p rs)) k ≡ Some w → IsWishOf f rs w)
    → slice_get (map f (cond b (r ∷ filter p rs) (filter p rs))) i ≡ Some w → IsWishOf f (r ∷ rs) w
wish_at f p r rs zero w true above rest h = record { recipe = r; wish = let same : f r ≡ w = cc in sym same; found = ap (λ b. if b then Some r else recipe_with r.slug rs) ((bytes_decides r.slug r.slug).1 refl) }
wish_at f p r rs (suc i) w true above rest h = later f r rs w above (rest i h)
wish_at f p r rs i w false above rest h = later f r rs w above (rest i h)

wish_recipe : (f : Recipe → Candidate) (p : Recipe → Bool) (rs : List Recipe) (i : ℕ) (w : Candidate) → AreInOrder rs → slice_get (map f (filter p rs)) i ≡ Some w → IsWishOf f rs w
wish_recipe f p [] i w order h = absurd cc
wish_recipe f p (r ∷ rs) i w order h = wish_at f p r rs i w (p r) order.0 (λ k found. wish_recipe f p rs k w order.1 found) h

-- ---- enrolments

some_same : {x y : Recipe} → Some x ≡ Some y → x ≡ y
some_same e = cc

-- a granted wish for the recipe
record IsHeld (ws : List Candidate) (gs : List Bool) (r : Recipe) : Type 0 where
  place : ℕ
  wish : Candidate
  here : slice_get ws place ≡ Some wish
  granted : slice_get gs place ≡ Some true
  slug : wish.slug ≡ r.slug
  kind : wish.kind ≡ kind_of r
  features : wish.features ≡ features_of r

held_by : (context : Context) (s : State) (now : ℕ) (slug : List ℕ) (r : Recipe) → AreInOrder s.live → recipe_with slug s.live ≡ Some r → is_slug_granted context s now slug ≡ true → IsHeld (wishes_of context s now) (grants_of (wishes_of context s now) s.coenrolling) r
held_by context s now slug r order found granted =
    let g = grant_of (wishes_of context s now) (grants_of (wishes_of context s now) s.coenrolling) slug granted in
    let f : Recipe → Candidate = λ p. candidate_of (is_enrolled_now (status_of p.slug s.rows)) p in
    let w = wish_recipe f (λ p. is_wish (outcome_of context s now p)) s.live g.place g.wish order g.here in
    let slug_is : w.recipe.slug ≡ slug = sym (ap (λ (c : Candidate). c.slug) w.wish) ∙ g.same in
    let same : w.recipe ≡ r = some_same (sym w.found ∙ ap (λ t. recipe_with t s.live) slug_is ∙ found) in
    record {
      place = g.place;
      wish = g.wish;
      here = g.here;
      granted = g.granted;
      slug = ap (λ (c : Candidate). c.slug) w.wish ∙ ap (λ (p : Recipe). p.slug) same;
      kind = ap (λ (c : Candidate). c.kind) w.wish ∙ ap kind_of same;
      features = ap (λ (c : Candidate). c.features) w.wish ∙ ap features_of same;
    }

pub old-fits : (rows : List Row) (slug : List ℕ) (o : Option Status) → ((st : Status) → status_of slug rows ≡ Some st → IsStatus st) → status_of slug rows ≡ o → IsOld o
old-fits rows slug None h e = tt
old-fits rows slug (Some st) h e = h st e

granted_where : (context : Context) (s : State) (now : ℕ) (slug : List ℕ) (r : Recipe) → IsValid r → IsOld (status_of r.slug s.rows) → Rise (slugs_of s.rows) → recipe_with slug s.live ≡ Some r → IsTrue (is_enrolled_now (status_of slug (rows_after context s now)))
    → is_slug_granted context s now slug ≡ true
granted_where context s now slug r valid old rise found enrolled =
    subst (λ t. is_slug_granted context s now t ≡ true) (found_slug slug s.live r found)
    (enrolled-granted r (is_out s r) (outcome_of context s now r) (is_slug_granted context s now r.slug) (outcome-fits context s now r (status_of r.slug s.rows) valid old)
    (sym (ap is_enrolled_now (status-after context s now slug rise ∙ ap (status_with context s now slug) found)) ∙ enrolled)).1

-- ---- no feature is shared

never : (a b c d : Bool) → (a ≡ true → b ≡ true → c ≡ true → d ≡ true) → (a && (b && (c && not d))) ≡ false
never false b c d h = refl
never true false c d h = refl
never true true false d h = refl
never true true true true h = refl
never true true true false h = absurd (let e = h refl refl refl in cc)

shares_nothing : (s : State) (ws : List Candidate) (r q : Recipe) (feature : List ℕ) → IsHeld ws (grants_of ws s.coenrolling) r → IsHeld ws (grants_of ws s.coenrolling) q → r.slug ≢ q.slug → share s.coenrolling r q feature ≡ false
shares_nothing s ws r q feature one two apart =
    never (kind_eq (kind_of r) (kind_of q)) (has_feature r feature) (has_feature q feature) (is_in s.coenrolling feature)
    (λ kind has_r has_q. is_in-Contains feature s.coenrolling
    (exclusive ws s.coenrolling (grants_of ws s.coenrolling) (settled_grants ws s.coenrolling) one.place two.place one.wish two.wish feature one.here two.here one.granted two.granted
    (λ e. apart (sym one.slug ∙ e ∙ two.slug)) (one.kind ∙ (kind_Decides (kind_of r) (kind_of q)).0 kind ∙ sym two.kind)
    (subst (λ fs. Contains fs feature) (sym one.features) (Contains-is_in feature (features_of r) (among-features feature r ∙ has_r)))
    (subst (λ fs. Contains fs feature) (sym two.features) (Contains-is_in feature (features_of q) (among-features feature q ∙ has_q)))))

valid_at : (slug : List ℕ) (q : Recipe) (qs : List Recipe) (r : Recipe) (b : Bool) → IsValid q → (recipe_with slug qs ≡ Some r → IsValid r) → (if b then Some q else recipe_with slug qs) ≡ Some r → IsValid r
valid_at slug q qs r true valid rest e = subst IsValid (some_same e) valid
valid_at slug q qs r false valid rest e = rest e

pub found_valid : (slug : List ℕ) (rs : List Recipe) (r : Recipe) → AreValid rs → recipe_with slug rs ≡ Some r → IsValid r
found_valid slug [] r valid e = absurd cc
found_valid slug (q ∷ qs) r valid e = valid_at slug q qs r (bytes_eq q.slug slug) valid.0 (found_valid slug qs r valid.1) e

pub evolved-exclusive : (context : Context) (s : State) (now : ℕ) → AreInOrder s.live → AreValid s.live → Rise (slugs_of s.rows) → ((slug : List ℕ) → IsOld (status_of slug s.rows)) → AreExclusive (with_new_rows context s now)
evolved-exclusive context s now order valid rise old slug other feature r q one two found found_other apart =
    shares_nothing s (wishes_of context s now) r q feature (held_by context s now slug r order found (granted_where context s now slug r (found_valid slug s.live r valid found) (old r.slug) rise found one))
    (held_by context s now other q order found_other (granted_where context s now other q (found_valid other s.live q valid found_other) (old q.slug) rise found_other two))
    (λ e. let same : bytes_eq slug other ≡ true = (bytes_decides slug other).1 (sym (found_slug slug s.live r found) ∙ e ∙ found_slug other s.live q found_other) in absurd cc)
