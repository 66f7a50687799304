-- Rows that hold features, and what no two of them hold.
use Rattle.std.proofs.Common.{◌≡◌, ℕ, zero, suc, ◌+◌, ◌<◌, ◌≤◌, Bool, true, false, List, [], ◌∷◌, length, get_or, take, Option, Some, None, Equal, ◌&&◌, ◌||◌, refl, sym, ap, ◌∙◌, subst, arith, inl, inr}
use Rattle.std.specs.Prelude.{IsTrue, not, bytes_eq, option_map, if◌then◌else◌}
use Rattle.std.specs.Option.{is_some}
use Rattle.std.specs.Borrow.{Bor}
use Rattle.std.specs.BTreeSet.{BTreeSet}
use Rattle.std.specs.Cmp.{first_so, second_so}
use Rattle.std.specs.Cmp.Lexicographic.{texts_ties, bytes_decides}
use Rattle.std.specs.List.{list_any}
use Rattle.std.proofs.lemmas.Bool.{cases_lt, false_from_ne_true, and_from}
use Rattle.std.proofs.lemmas.List.{get_or_default}
use Rattle.std.proofs.lemmas.List.Folds.{list_any_more}
use Rattle.std.proofs.Math.Bool.{or-true, or-false}
use Rattle.sequences.proofs.Texts.{is_Equal}
use Rattle.recipe_reader.specs.Payloads.{slug_cmp, recipe_with}
use Rattle.recipe_reader.specs.Kinds.{kind_of, kind_eq}
use Rattle.recipe_reader.specs.declared.kinds.Kind.{Kind}
use Rattle.recipe_reader.specs.declared.kinds.Kind.TheVariants.{Experiment, Rollout}
use Rattle.recipe_reader.specs.declared.recipe.Recipe.{Recipe}
use Rattle.recipe_reader.proofs.SameKind.{kind_itself, kinds_both}
use Rattle.enrol_states.specs.Order.{Rise, is_in}
use Rattle.enrol_states.specs.Statuses.{is_enrolled, is_enrolled_now}
use Rattle.enrol_states.specs.State.{slugs_of, status_of}
use Rattle.enrol_states.specs.Recipes.{has_feature, share}
use Rattle.enrol_states.specs.Exclusive.{AreExclusive}
use Rattle.enrol_states.specs.TextSets.{has_text}
use Rattle.enrol_states.specs.Least.{IsLeast, recipe_of_kind}
use Rattle.enrol_states.specs.Holding.{has_alone, recipe_holds, enrolled_recipe, holds, is_held, AreApartBefore, AreApart}
use Rattle.enrol_states.specs.declared.state.State.{State}
use Rattle.enrol_states.specs.declared.state.Row.{Row}
use Rattle.enrol_states.proofs.Ordered.{rises_by, lesser_texts}
use Rattle.enrol_states.proofs.Lookups.{slug_of, status-at, is_some-map}

-- ---- one row

-- by the row the client is enrolled in the recipe, which has the feature
record IsHolding (s : State) (kind : Kind) (row : Row) (f : List ℕ) (r : Recipe) : Type 0 where
  enrolled : IsTrue (is_enrolled row.status)
  found : recipe_with row.slug s.live ≡ Some r
  same_kind : kind_eq kind (kind_of r) ≡ true
  alone : has_alone s.coenrolling r f ≡ true

holding_of_kind : (s : State) (kind : Kind) (row : Row) (f : List ℕ) (r : Recipe) (same : Bool) → kind_eq kind (kind_of r) ≡ same → IsTrue (is_enrolled row.status) → recipe_with row.slug s.live ≡ Some r
    → recipe_holds s.coenrolling (if same then Some r else None) f ≡ true → (q : Recipe) × IsHolding s kind row f q
holding_of_kind s kind row f r true same_kind enrolled found h = (r, record { enrolled = enrolled; found = found; same_kind = same_kind; alone = h })
holding_of_kind s kind row f r false same_kind enrolled found h = absurd cc

holding_found : (s : State) (kind : Kind) (row : Row) (f : List ℕ) (o : Option Recipe) → IsTrue (is_enrolled row.status) → recipe_with row.slug s.live ≡ o
    → recipe_holds s.coenrolling (recipe_of_kind kind o) f ≡ true → (q : Recipe) × IsHolding s kind row f q
holding_found s kind row f None enrolled found h = absurd cc
holding_found s kind row f (Some r) enrolled found h = holding_of_kind s kind row f r (kind_eq kind (kind_of r)) refl enrolled found h

holding_at : (s : State) (kind : Kind) (row : Row) (f : List ℕ) (b : Bool) → is_enrolled row.status ≡ b
    → recipe_holds s.coenrolling (if b then recipe_of_kind kind (recipe_with row.slug s.live) else None) f ≡ true → (q : Recipe) × IsHolding s kind row f q
holding_at s kind row f true enrolled h = holding_found s kind row f (recipe_with row.slug s.live) enrolled refl h
holding_at s kind row f false enrolled h = absurd cc

-- the recipe of a row that holds a feature
holding : (s : State) (kind : Kind) (row : Row) (f : List ℕ) → holds s kind row f ≡ true → (q : Recipe) × IsHolding s kind row f q
holding s kind row f h = holding_at s kind row f (is_enrolled row.status) refl h

held_by : (s : State) (kind : Kind) (row : Row) (f : List ℕ) (r : Recipe) → IsHolding s kind row f r → holds s kind row f ≡ true
held_by s kind row f r is =
    ap (λ b. recipe_holds s.coenrolling (if b then recipe_of_kind kind (recipe_with row.slug s.live) else None) f) is.enrolled
    ∙ ap (λ o. recipe_holds s.coenrolling (recipe_of_kind kind o) f) is.found
    ∙ ap (λ b. recipe_holds s.coenrolling (if b then Some r else None) f) is.same_kind
    ∙ is.alone

-- ---- rows before a place

-- an item before the j-th passes
record IsAmong {X : Type 0} (p : X → Bool) (xs : List X) (j : ℕ) : Type 0 where
  place : ℕ
  before : place < j
  within : place < length xs
  passes : (d : X) → p (get_or xs place d) ≡ true

among_at : {X : Type 0} (p : X → Bool) (x : X) (xs : List X) (j : ℕ) (b : Bool) → p x ≡ b → (b || list_any p (take j xs)) ≡ true → (list_any p (take j xs) ≡ true → IsAmong p xs j) → IsAmong p (x ∷ xs) (suc j)
among_at p x xs j true e h rest = record { place = 0; before = omega arith; within = omega arith; passes = λ d. e }
among_at p x xs j false e h rest =
    let found = rest h in
    record { place = suc found.place; before = omega (arith, found.before); within = omega (arith, found.within); passes = λ d. found.passes d }

among : {X : Type 0} (p : X → Bool) (xs : List X) (j : ℕ) → list_any p (take j xs) ≡ true → IsAmong p xs j
among p [] zero h = absurd cc
among p [] (suc j) h = absurd cc
among p (x ∷ xs) zero h = absurd cc
among p (x ∷ xs) (suc j) h = among_at p x xs j (p x) refl h (among p xs j)

any_at : {X : Type 0} (p : X → Bool) (xs : List X) (i j : ℕ) (d : X) → i < j → i < length xs → p (get_or xs i d) ≡ true → list_any p (take j xs) ≡ true
any_at p [] i j d before within h = absurd (omega (arith, within))
any_at p (x ∷ xs) i zero d before within h = absurd (omega (arith, before))
any_at p (x ∷ xs) zero (suc j) d before within h = ap (λ b. b || list_any p (take j xs)) h
any_at p (x ∷ xs) (suc i) (suc j) d before within h = ap (λ b. p x || b) (any_at p xs i j d (omega (arith, before)) (omega (arith, within)) h) ∙ or-true (p x)

-- ---- rows that are apart, and recipes that are exclusive

-- where a slug is enrolled
record IsEnrolledAt (slug : List ℕ) (rows : List Row) : Type 0 where
  place : ℕ
  row : Row
  within : place < length rows
  stands : (d : Row) → get_or rows place d ≡ row
  same : row.slug ≡ slug
  enrolled : IsTrue (is_enrolled row.status)

enrolled_here : (slug : List ℕ) (row : Row) (rows : List Row) (b : Bool) → bytes_eq row.slug slug ≡ b → IsTrue (is_enrolled_now (if b then Some row.status else status_of slug rows))
    → (IsTrue (is_enrolled_now (status_of slug rows)) → IsEnrolledAt slug rows) → IsEnrolledAt slug (row ∷ rows)
enrolled_here slug row rows true e h rest = record { place = 0; row = row; within = omega arith; stands = λ d. refl; same = (bytes_decides row.slug slug).0 e; enrolled = h }
enrolled_here slug row rows false e h rest =
    let found = rest h in
    record { place = suc found.place; row = found.row; within = omega (arith, found.within); stands = λ d. found.stands d; same = found.same; enrolled = found.enrolled }

enrolled_at : (slug : List ℕ) (rows : List Row) → IsTrue (is_enrolled_now (status_of slug rows)) → IsEnrolledAt slug rows
enrolled_at slug [] h = absurd cc
enrolled_at slug (row ∷ rows) h = enrolled_here slug row rows (bytes_eq row.slug slug) refl h (enrolled_at slug rows)

of_each_kind : (s : State) → AreApart s Rollout → AreApart s Experiment → (kind : Kind) → AreApart s kind
of_each_kind s rollouts experiments Rollout = rollouts
of_each_kind s rollouts experiments Experiment = experiments

-- the earlier of two rows of one kind and the later hold nothing in common
not_both : (s : State) (kind : Kind) (i j : ℕ) (d : Row) (f : List ℕ) → AreApart s kind → i < j → j < length s.rows → holds s kind (get_or s.rows i d) f ≡ true → holds s kind (get_or s.rows j d) f ≡ true → ⊥
not_both s kind i j d f apart before within one two =
    let none = apart j d f within two in
    let some = any_at (λ row. holds s kind row f) s.rows i j d before (omega (arith, before, within)) one in
    absurd cc

holding_there : (s : State) (kind : Kind) (slug f : List ℕ) (r : Recipe) (spot : IsEnrolledAt slug s.rows) (d : Row) → recipe_with slug s.live ≡ Some r → kind_eq kind (kind_of r) ≡ true → has_alone s.coenrolling r f ≡ true
    → holds s kind (get_or s.rows spot.place d) f ≡ true
holding_there s kind slug f r spot d found same_kind alone =
    ap (λ row. holds s kind row f) (spot.stands d) ∙ held_by s kind spot.row f r (record { enrolled = spot.enrolled; found = ap (λ t. recipe_with t s.live) spot.same ∙ found; same_kind = same_kind; alone = alone })

shared_not : (s : State) (slug other f : List ℕ) (r q : Recipe) → AreApart s Rollout → AreApart s Experiment → IsEnrolledAt slug s.rows → IsEnrolledAt other s.rows → recipe_with slug s.live ≡ Some r → recipe_with other s.live ≡ Some q
    → bytes_eq slug other ≡ false → share s.coenrolling r q f ≡ true → ⊥
shared_not s slug other f r q rollouts experiments one two found found_other apart shared =
    let rest = second_so (kind_eq (kind_of r) (kind_of q)) (has_feature r f && (has_feature q f && not (is_in s.coenrolling f))) shared in
    let same_kind = first_so (kind_eq (kind_of r) (kind_of q)) (has_feature r f && (has_feature q f && not (is_in s.coenrolling f))) shared in
    let has = first_so (has_feature r f) (has_feature q f && not (is_in s.coenrolling f)) rest in
    let other_alone = second_so (has_feature r f) (has_feature q f && not (is_in s.coenrolling f)) rest in
    let alone = and_from (has_feature r f) (not (is_in s.coenrolling f)) has (second_so (has_feature q f) (not (is_in s.coenrolling f)) other_alone) in
    let here = holding_there s (kind_of r) slug f r one one.row found (kind_itself (kind_of r)) alone in
    let there = holding_there s (kind_of r) other f q two one.row found_other same_kind other_alone in
    let each = of_each_kind s rollouts experiments (kind_of r) in
    elim (cases_lt one.place two.place) [
      | inl less ↦ not_both s (kind_of r) one.place two.place one.row f each less two.within here there
      | inr least ↦ elim (cases_lt two.place one.place) [
        | inl less ↦ not_both s (kind_of r) two.place one.place one.row f each less one.within there here
        | inr most ↦
            let place : two.place ≡ one.place = omega (arith, least, most) in
            let rows : two.row ≡ one.row = sym (two.stands one.row) ∙ ap (λ m. get_or s.rows m one.row) place ∙ one.stands one.row in
            let same : bytes_eq slug other ≡ true = (bytes_decides slug other).1 (sym one.same ∙ ap (λ (row : Row). row.slug) (sym rows) ∙ two.same) in
            absurd cc
      ]
    ]

pub apart_exclusive : (s : State) → AreApart s Rollout → AreApart s Experiment → AreExclusive s
apart_exclusive s rollouts experiments slug other f r q one two found found_other apart =
    false_from_ne_true (share s.coenrolling r q f) (λ shared. shared_not s slug other f r q rollouts experiments (enrolled_at slug s.rows one) (enrolled_at other s.rows two) found found_other apart shared)

itself : (a : List ℕ) → slug_cmp a a ≡ Equal
itself a = is_Equal (slug_cmp a a) (sym (texts_ties a a) ∙ (bytes_decides a a).1 refl)

enrolled_now : (s : State) (i : ℕ) (d : Row) → Rise (slugs_of s.rows) → i < length s.rows → IsTrue (is_enrolled (get_or s.rows i d).status) → IsTrue (is_enrolled_now (status_of (get_or s.rows i d).slug s.rows))
enrolled_now s i d rise within enrolled = ap is_enrolled_now (status-at (get_or s.rows i d).slug s.rows i d within rise (itself (get_or s.rows i d).slug)) ∙ enrolled

both_held : (s : State) (kind : Kind) (i j : ℕ) (d : Row) (f : List ℕ) → Rise (slugs_of s.rows) → AreExclusive s → i < j → j < length s.rows → holds s kind (get_or s.rows i d) f ≡ true → holds s kind (get_or s.rows j d) f ≡ true → ⊥
both_held s kind i j d f rise ex before within one two =
    let here = get_or s.rows i d in
    let there = get_or s.rows j d in
    let p = holding s kind here f one in
    let q = holding s kind there f two in
    let apart = lesser_texts here.slug there.slug (rises_by slug_of s.rows i j d before within rise) in
    let none = ex here.slug there.slug f p.0 q.0 (enrolled_now s i d rise (omega (arith, before, within)) p.1.enrolled) (enrolled_now s j d rise within q.1.enrolled) p.1.found q.1.found apart in
    let shared : share s.coenrolling p.0 q.0 f ≡ true =
    and_from (kind_eq (kind_of p.0) (kind_of q.0)) (has_feature p.0 f && has_alone s.coenrolling q.0 f) (kinds_both kind (kind_of p.0) (kind_of q.0) p.1.same_kind q.1.same_kind)
    (and_from (has_feature p.0 f) (has_alone s.coenrolling q.0 f) (first_so (has_feature p.0 f) (not (is_in s.coenrolling f)) p.1.alone) q.1.alone)
    in
    absurd cc

pub exclusive_apart : (s : State) (kind : Kind) → Rise (slugs_of s.rows) → AreExclusive s → AreApart s kind
exclusive_apart s kind rise ex j row f within h =
    false_from_ne_true (is_held s kind (take j s.rows) f)
    (λ held.
    let earlier = among (λ (q : Row). holds s kind q f) s.rows j held in
    both_held s kind earlier.place j row f rise ex earlier.before within (earlier.passes row) h)

-- ---- the loop over the rows

-- what one more row holds
held_more : (s : State) (kind : Kind) (rows : List Row) (i : ℕ) (row : Row) (f : List ℕ) → i < length rows → row ≡ get_or rows i row → is_held s kind (take (i + 1) rows) f ≡ (is_held s kind (take i rows) f || holds s kind row f)
held_more s kind rows i row f within here =
    list_any_more (λ (q : Row). holds s kind q f) rows i row within ∙ ap (λ (q : Row). is_held s kind (take i rows) f || holds s kind q f) (sym here)

apart_more : (s : State) (kind : Kind) (rows : List Row) (i : ℕ) (row : Row) → i < length rows → row ≡ get_or rows i row → ((f : List ℕ) → holds s kind row f ≡ true → is_held s kind (take i rows) f ≡ false)
    → AreApartBefore s kind rows i → AreApartBefore s kind rows (i + 1)
apart_more s kind rows i row within here fresh apart j d f before h =
    elim (cases_lt j i) [
      | inl less ↦ apart j d f less h
      | inr least ↦
          let place : j ≡ i = omega (arith, before, least) in
          let same : get_or rows j d ≡ row = ap (λ m. get_or rows m d) place ∙ get_or_default rows i d row within ∙ sym here in
          subst (λ m. is_held s kind (take m rows) f ≡ false) (sym place) (fresh f (sym (ap (λ q. holds s kind q f) same) ∙ h))
    ]

-- a row by which the client is enrolled in no recipe of the kind
pub none_held : (s : State) (kind : Kind) (rows : List Row) (i : ℕ) (row : Row) (set : BTreeSet (Bor (List ℕ))) → i < length rows → row ≡ get_or rows i row → enrolled_recipe s kind row ≡ None
    → ((f : List ℕ) → has_text set f ≡ is_held s kind (take i rows) f) → (f : List ℕ) → has_text set f ≡ is_held s kind (take (i + 1) rows) f
none_held s kind rows i row set within here none held f =
    held f ∙ sym (or-false (is_held s kind (take i rows) f)) ∙ ap (λ o. is_held s kind (take i rows) f || recipe_holds s.coenrolling o f) (sym none) ∙ sym (held_more s kind rows i row f within here)

pub none_apart : (s : State) (kind : Kind) (rows : List Row) (i : ℕ) (row : Row) → i < length rows → row ≡ get_or rows i row → enrolled_recipe s kind row ≡ None
    → AreApartBefore s kind rows i → AreApartBefore s kind rows (i + 1)
none_apart s kind rows i row within here none apart =
    apart_more s kind rows i row within here (λ f h. let out : holds s kind row f ≡ false = ap (λ o. recipe_holds s.coenrolling o f) none in absurd cc) apart

-- a row by which it is enrolled in one that has no feature that is held
pub some_held : (s : State) (kind : Kind) (rows : List Row) (i : ℕ) (row : Row) (r : Recipe) (set next : BTreeSet (Bor (List ℕ))) → i < length rows → row ≡ get_or rows i row → enrolled_recipe s kind row ≡ Some r
    → ((f : List ℕ) → has_text set f ≡ is_held s kind (take i rows) f) → ((f : List ℕ) → has_text next f ≡ (has_text set f || has_alone s.coenrolling r f)) → (f : List ℕ) → has_text next f ≡ is_held s kind (take (i + 1) rows) f
some_held s kind rows i row r set next within here some held joins f =
    joins f ∙ ap (λ b. b || has_alone s.coenrolling r f) (held f) ∙ ap (λ o. is_held s kind (take i rows) f || recipe_holds s.coenrolling o f) (sym some) ∙ sym (held_more s kind rows i row f within here)

none_shared : (a b : Bool) → (a && b) ≡ false → b ≡ true → a ≡ false
none_shared true b none h = absurd cc
none_shared false b none h = refl

pub some_apart : (s : State) (kind : Kind) (rows : List Row) (i : ℕ) (row : Row) (r : Recipe) (set : BTreeSet (Bor (List ℕ))) → i < length rows → row ≡ get_or rows i row → enrolled_recipe s kind row ≡ Some r
    → ((f : List ℕ) → has_text set f ≡ is_held s kind (take i rows) f) → ((f : List ℕ) → (has_text set f && has_feature r f) ≡ false) → AreApartBefore s kind rows i → AreApartBefore s kind rows (i + 1)
some_apart s kind rows i row r set within here some held none apart =
    apart_more s kind rows i row within here
    (λ f h.
    let alone : has_alone s.coenrolling r f ≡ true = sym (ap (λ o. recipe_holds s.coenrolling o f) some) ∙ h in
    sym (held f) ∙ none_shared (has_text set f) (has_feature r f) (none f) (first_so (has_feature r f) (not (is_in s.coenrolling f)) alone))
    apart

-- a row that has a feature that an earlier one holds
pub some_taken : (s : State) (kind : Kind) (rows : List Row) (i : ℕ) (row : Row) (r : Recipe) (set : BTreeSet (Bor (List ℕ))) (f : List ℕ) → rows ≡ s.rows → i < length rows → row ≡ get_or rows i row → enrolled_recipe s kind row ≡ Some r
    → ((f : List ℕ) → has_text set f ≡ is_held s kind (take i rows) f) → (has_text set f && has_feature r f) ≡ true → AreApart s kind → ⊥
some_taken s kind rows i row r set f same within here some held both apart =
    let held_here : is_held s kind (take i rows) f ≡ true = sym (held f) ∙ first_so (has_text set f) (has_feature r f) both in
    let earlier = among (λ (q : Row). holds s kind q f) rows i held_here in
    let its = holding s kind (get_or rows earlier.place row) f (earlier.passes row) in
    let alone = and_from (has_feature r f) (not (is_in s.coenrolling f)) (second_so (has_text set f) (has_feature r f) both) (second_so (has_feature its.0 f) (not (is_in s.coenrolling f)) its.1.alone) in
    let holds_it : holds s kind (get_or rows i row) f ≡ true = ap (λ q. holds s kind q f) (sym here) ∙ ap (λ o. recipe_holds s.coenrolling o f) some ∙ alone in
    let none : is_held s kind (take i rows) f ≡ false =
    subst (λ qs. is_held s kind (take i qs) f ≡ false) (sym same) (apart i row f (subst (λ qs. i < length qs) same within) (subst (λ (qs : List Row). holds s kind (get_or qs i row) f ≡ true) same holds_it))
    in
    absurd cc

pub all_apart : (s : State) (kind : Kind) (rows : List Row) (i : ℕ) → rows ≡ s.rows → length rows ≤ i → AreApartBefore s kind rows i → AreApart s kind
all_apart s kind rows i same all apart j row f within h =
    subst (λ qs. is_held s kind (take j qs) f ≡ false) same
    (apart j row f (let fewer : j < length rows = subst (λ qs. j < length qs) (sym same) within in omega (arith, all, fewer)) (subst (λ (qs : List Row). holds s kind (get_or qs j row) f ≡ true) (sym same) h))

-- ---- whether a least text is there

least_there : (test : List ℕ → Bool) (o : Option (List ℕ)) → is_some o ≡ true → IsLeast test o → (f : List ℕ) × (test f ≡ true)
least_there test None there least = absurd cc
least_there test (Some f) there least = (f, least.0)

least_absent : (test : List ℕ → Bool) (o : Option (List ℕ)) → is_some o ≡ false → IsLeast test o → (f : List ℕ) → test f ≡ false
least_absent test None there least = least
least_absent test (Some f) there least = absurd cc

pub one_shared : {A : Type 0} (text : A → List ℕ) (test : List ℕ → Bool) (o : Option A) (b : Bool) → b ≡ is_some o → b ≡ true → IsLeast test (option_map text o) → (f : List ℕ) × (test f ≡ true)
one_shared text test o b is there least = least_there test (option_map text o) (is_some-map text o ∙ sym is ∙ there) least

pub none_in_common : {A : Type 0} (text : A → List ℕ) (test : List ℕ → Bool) (o : Option A) (b : Bool) → b ≡ is_some o → b ≡ false → IsLeast test (option_map text o) → (f : List ℕ) → test f ≡ false
none_in_common text test o b is there least = least_absent test (option_map text o) (is_some-map text o ∙ sym is ∙ there) least
