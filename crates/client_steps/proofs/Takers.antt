-- What an opt-in answers, as the step has it.
use Rattle.std.proofs.Common.{Ordering, ◌≡◌, ℕ, zero, suc, ◌<◌, Bool, true, false, List, [], ◌∷◌, ◌++◌, map, length, get_or, Option, Some, None, Less, Equal, Greater, ◌&&◌, ◌||◌, refl, sym, ap, ◌∙◌, subst, arith}
use Rattle.std.specs.Prelude.{All, IsTrue, bytes_eq, if◌then◌else◌}
use Rattle.recipe_reader.specs.Kinds.{kind_of, kind_eq}
use Rattle.std.specs.Cmp.{first_so, second_so}
use Rattle.std.specs.List.{list_any}
use Rattle.std.specs.Ordering.{is_le}
use Rattle.std.proofs.lemmas.List.{get_or_default}
use Rattle.std.proofs.lemmas.List.Elements.{All-nil, All-cons, All-head, All-tail}
use Rattle.std.proofs.lemmas.Bool.{false_from_ne_true}
use Rattle.std.proofs.Math.Bool.{or_assoc}
use Rattle.recipe_reader.specs.Payloads.{slug_cmp, recipe_with}
use Rattle.recipe_reader.specs.declared.recipe.Recipe.{Recipe}
use Rattle.recipe_reader.specs.declared.recipe.Branch.{Branch}
use Rattle.recipe_reader.specs.declared.recipe.FeatureValue.{FeatureValue}
use Rattle.enrol_states.specs.Order.{Rise, is_in}
use Rattle.enrol_states.specs.Statuses.{is_enrolled}
use Rattle.enrol_states.specs.State.{slugs_of}
use Rattle.enrol_states.specs.Recipes.{sets, has_feature}
use Rattle.enrol_states.specs.Features.{shares_with, takes, IsFree}
use Rattle.enrol_states.specs.Choices.{MayChoose, IsTaken}
use Rattle.enrol_states.specs.Least.{IsLeast}
use Rattle.enrol_states.specs.declared.state.State.{State}
use Rattle.enrol_states.specs.declared.state.Row.{Row}
use Rattle.enrol_states.proofs.Ordered.{same_texts, turned_up, rises_by}
use Rattle.enrol_states.proofs.Leasts.{IsLeast-same, IsLeast-lesser, IsLeast-one}
use Rattle.enrol_states.proofs.Lookups.{slug_of}
use Rattle.enrol_states.proofs.Sets.{and_or, and_none}
use Rattle.enrol_states.proofs.Takings.{NoneTakenBefore}
use Rattle.enrol_states.specs.Commands.{after_opt_in}
use Rattle.client_words.specs.declared.answer.Answer.TheVariants.{Okay}
use Rattle.client_words.specs.declared.refusal.Refusal.TheVariants.{FeatureTaken, NotParticipating, NoSuchBranch}
use Rattle.client_steps.specs.declared.session.Session.{Session}
use Rattle.client_steps.specs.Steps.{Accepted, Refused, taking, offering, choosing, opting_in}
use Rattle.client_steps.specs.Choosing.{features_in, if_passes, least_of, taker_or, first_taker}

-- ---- the least of texts

least-among : (test : List ℕ → Bool) (ts : List (List ℕ)) → IsLeast (λ f. test f && is_in ts f) (least_of test ts)
least-among test [] = λ f. and_none (test f)
least-among test (t ∷ ts) =
    IsLeast-same (λ f. (test f && bytes_eq t f) || (test f && is_in ts f)) (λ f. test f && (bytes_eq t f || is_in ts f)) (least_of test (t ∷ ts)) (λ f. and_or (test f) (bytes_eq t f) (is_in ts f))
    (IsLeast-lesser (λ f. test f && bytes_eq t f) (λ f. test f && is_in ts f) (if_passes test t) (least_of test ts) (IsLeast-one test t) (least-among test ts))

and_so : (a b : Bool) → (a ≡ true → b ≡ true) → (a && b) ≡ a
and_so true b so = so refl
and_so false b so = refl

-- the least of all texts, where the list has each that passes
least-is : (test : List ℕ → Bool) (ts : List (List ℕ)) → ((f : List ℕ) → test f ≡ true → is_in ts f ≡ true) → IsLeast test (least_of test ts)
least-is test ts among = IsLeast-same (λ f. test f && is_in ts f) test (least_of test ts) (λ f. and_so (test f) (is_in ts f) (among f)) (least-among test ts)

le_both_at : (s t : List ℕ) (o : Ordering) → slug_cmp s t ≡ o → IsTrue (is_le o) → IsTrue (is_le (slug_cmp t s)) → s ≡ t
le_both_at s t Less e first second = absurd (let up = turned_up s t e in cc)
le_both_at s t Equal e first second = same_texts s t e
le_both_at s t Greater e first second = absurd cc

le_both : (s t : List ℕ) → IsTrue (is_le (slug_cmp s t)) → IsTrue (is_le (slug_cmp t s)) → s ≡ t
le_both s t first second = le_both_at s t (slug_cmp s t) refl first second

-- there is one least text at most
one_least : (test : List ℕ → Bool) (a b : Option (List ℕ)) → IsLeast test a → IsLeast test b → a ≡ b
one_least test None None first second = refl
one_least test None (Some t) first second = absurd (let none = first t in let one = second.0 in cc)
one_least test (Some s) None first second = absurd (let none = second s in let one = first.0 in cc)
one_least test (Some s) (Some t) first second = ap Some (le_both s t (first.1 t second.0) (second.1 s first.0))

-- ---- the features of a recipe

is_in-append : (xs ys : List (List ℕ)) (f : List ℕ) → is_in (xs ++ ys) f ≡ (is_in xs f || is_in ys f)
is_in-append [] ys f = refl
is_in-append (x ∷ xs) ys f = ap (λ b. bytes_eq x f || b) (is_in-append xs ys f) ∙ sym (or_assoc (bytes_eq x f) (is_in xs f) (is_in ys f))

is_in-set : (vs : List FeatureValue) (f : List ℕ) → is_in (map (λ (v : FeatureValue). v.feature) vs) f ≡ list_any (λ (v : FeatureValue). bytes_eq v.feature f) vs
is_in-set [] f = refl
is_in-set (v ∷ vs) f = ap (λ b. bytes_eq v.feature f || b) (is_in-set vs f)

is_in-features : (bs : List Branch) (f : List ℕ) → is_in (features_in bs) f ≡ list_any (λ b. sets b f) bs
is_in-features [] f = refl
is_in-features (b ∷ bs) f =
    is_in-append (map (λ (v : FeatureValue). v.feature) b.features) (features_in bs) f ∙ ap (λ x. x || is_in (features_in bs) f) (is_in-set b.features f) ∙ ap (λ x. sets b f || x) (is_in-features bs f)

shared-had : (coenrolling : List (List ℕ)) (r : Recipe) (q : Option Recipe) (f : List ℕ) → shares_with coenrolling r q f ≡ true → has_feature r f ≡ true
shared-had coenrolling r None f h = absurd cc
shared-had coenrolling r (Some q) f h = first_so (has_feature r f) _ (second_so (kind_eq (kind_of r) (kind_of q)) _ h)

-- what a row takes of a recipe is a feature of it
taken-had : (s : State) (r : Recipe) (row : Row) (f : List ℕ) → takes s r row f ≡ true → is_in (features_in r.branches) f ≡ true
taken-had s r row f h =
    is_in-features r.branches f ∙ shared-had s.coenrolling r (recipe_with row.slug s.live) f (second_so (is_enrolled row.status) _ (second_so _ _ h))

-- ---- the row that takes a feature

least-taken : (s : State) (r : Recipe) (row : Row) → IsLeast (takes s r row) (least_of (takes s r row) (features_in r.branches))
least-taken s r row = least-is (takes s r row) (features_in r.branches) (taken-had s r row)

none-taken : (s : State) (r : Recipe) (row : Row) → ((f : List ℕ) → takes s r row f ≡ false) → least_of (takes s r row) (features_in r.branches) ≡ None
none-taken s r row none = one_least (takes s r row) (least_of (takes s r row) (features_in r.branches)) None (least-taken s r row) none

later : (s : State) (r : Recipe) (row : Row) (rows : List Row) → ((f : List ℕ) → takes s r row f ≡ false) → first_taker s r (row ∷ rows) ≡ first_taker s r rows
later s r row rows none = ap (λ o. taker_or row.slug o (first_taker s r rows)) (none-taken s r row none)

free_of : (s : State) (r : Recipe) (rows : List Row) → All (λ row. (f : List ℕ) → takes s r row f ≡ false) rows → first_taker s r rows ≡ None
free_of s r [] free = refl
free_of s r (row ∷ rows) free =
    later s r row rows (All-head (λ p. (f : List ℕ) → takes s r p f ≡ false) row rows free) ∙ free_of s r rows (All-tail (λ p. (f : List ℕ) → takes s r p f ≡ false) row rows free)

-- a recipe that is free has no taker
pub no_taker : (s : State) (r : Recipe) → IsFree s r → first_taker s r s.rows ≡ None
no_taker s r free = free_of s r s.rows free

first-at : (s : State) (r : Recipe) (rows : List Row) (i : ℕ) (d : Row) (f : List ℕ) → i < length rows → NoneTakenBefore s r rows i → IsLeast (takes s r (get_or rows i d)) (Some f) → first_taker s r rows ≡ Some ((get_or rows i d).slug, f)
first-at s r [] i d f within before least = absurd (omega (arith, within))
first-at s r (row ∷ rows) zero d f within before least =
    ap (λ o. taker_or row.slug o (first_taker s r rows)) (one_least (takes s r row) (least_of (takes s r row) (features_in r.branches)) (Some f) (least-taken s r row) least)
first-at s r (row ∷ rows) (suc i) d f within before least =
    later s r row rows (before zero d (omega arith)) ∙ first-at s r rows i d f (omega (arith, within)) (λ k e less. before (suc k) e (omega (arith, less))) least

-- the row that takes a feature is the first that does
pub taker_is : (s : State) (r : Recipe) (holder feature : List ℕ) → Rise (slugs_of s.rows) → IsTaken s r holder feature → first_taker s r s.rows ≡ Some (holder, feature)
taker_is s r holder feature rise taken =
    first-at s r s.rows i taken.row feature within before (subst (λ q. IsLeast (takes s r q) (Some feature)) here (taken.is_taken, taken.least_feature))
    ∙ ap (λ slug. Some (slug, feature)) (ap (λ (q : Row). q.slug) (sym here) ∙ taken.slug)
  where
    i : ℕ
    i = taken.is_row.0

    within : i < length s.rows
    within = taken.is_row.1

    here : taken.row ≡ get_or s.rows i taken.row
    here = sym taken.is_row.2

    never : (o : Ordering) → o ≡ Greater → is_le o ≡ true → ⊥
    never Less e most = absurd cc
    never Equal e most = absurd cc
    never Greater e most = absurd cc

    before : NoneTakenBefore s r s.rows i
    before k d less f = false_from_ne_true (takes s r (get_or s.rows k d) f) (λ takes_it.
        let here_slug : (get_or s.rows i d).slug ≡ holder = ap (λ (q : Row). q.slug) (get_or_default s.rows i d taken.row within ∙ taken.is_row.2) ∙ taken.slug in
        let up = turned_up (get_or s.rows k d).slug (get_or s.rows i d).slug (rises_by slug_of s.rows k i d less within rise) in
        let above : slug_cmp holder (get_or s.rows k d).slug ≡ Greater = subst (λ t. slug_cmp t (get_or s.rows k d).slug ≡ Greater) here_slug up in
        never (slug_cmp holder (get_or s.rows k d).slug) above (taken.least_slug k d (omega (arith, less, within)) f takes_it))

-- where there is no taker, the recipe is free
none_least : (test : List ℕ → Bool) (ts : List (List ℕ)) (o : Option (List ℕ)) → least_of test ts ≡ o → IsLeast test o → o ≡ None → (f : List ℕ) → test f ≡ false
none_least test ts None is least none = least
none_least test ts (Some f) is least none = absurd cc

later_none : (slug : List ℕ) (o : Option (List ℕ)) (rest : Option (List ℕ × List ℕ)) → taker_or slug o rest ≡ None → (o ≡ None) × (rest ≡ None)
later_none slug None rest e = (refl, e)
later_none slug (Some f) rest e = absurd cc

free_of_none : (s : State) (r : Recipe) (rows : List Row) → first_taker s r rows ≡ None → All (λ row. (f : List ℕ) → takes s r row f ≡ false) rows
free_of_none s r [] e = All-nil (λ row. (f : List ℕ) → takes s r row f ≡ false)
free_of_none s r (row ∷ rows) e =
    let parts = later_none row.slug (least_of (takes s r row) (features_in r.branches)) (first_taker s r rows) e in
    All-cons (λ p. (f : List ℕ) → takes s r p f ≡ false) row rows
    (none_least (takes s r row) (features_in r.branches) (least_of (takes s r row) (features_in r.branches)) refl (least-taken s r row) parts.0)
    (free_of_none s r rows parts.1)

pub free_where : (s : State) (r : Recipe) → first_taker s r s.rows ≡ None → IsFree s r
free_where s r none = free_of_none s r s.rows none

-- ---- the step

module _ (s : State) (session : Session) (slug branch : List ℕ) (r : Recipe) (may : MayChoose s slug branch r) where
  -- a branch that may be chosen is taken unless another recipe takes a feature
  chosen : opting_in s session slug branch ≡ taking s session slug branch (first_taker s r s.rows)
  chosen =
      ap (choosing s session slug branch) may.recipe
      ∙ ap (λ b. if b then offering s session slug branch r else Refused NotParticipating) may.participating
      ∙ ap (λ b. if b then taking s session slug branch (first_taker s r s.rows) else Refused NoSuchBranch) may.offered

  pub taken_in : (t : State) → IsFree s r → t ≡ after_opt_in s slug branch → Accepted t session Okay ≡ opting_in s session slug branch
  taken_in t free is = ap (λ x. Accepted x session Okay) is ∙ sym (chosen ∙ ap (taking s session slug branch) (no_taker s r free))

  pub refused_for : (holder feature : List ℕ) → Rise (slugs_of s.rows) → IsTaken s r holder feature → Refused (FeatureTaken holder feature) ≡ opting_in s session slug branch
  refused_for holder feature rise taken = sym (chosen ∙ ap (taking s session slug branch) (taker_is s r holder feature rise taken))
