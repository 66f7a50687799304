-- The rows that take features of a recipe.
use Rattle.std.proofs.Common.{◌≡◌, ℕ, ◌<◌, ◌≤◌, Bool, true, false, List, length, get_or, Option, Some, None, Less, ◌&&◌, refl, sym, ap, ◌∙◌, subst, arith, inl, inr}
use Rattle.std.specs.Prelude.{IsTrue, not, bytes_eq, if◌then◌else◌}
use Rattle.std.specs.Borrow.{Bor}
use Rattle.std.specs.BTreeSet.{BTreeSet}
use Rattle.std.specs.Ordering.{is_le}
use Rattle.std.proofs.lemmas.Bool.{cases_lt}
use Rattle.std.proofs.lemmas.List.{get_or_default}
use Rattle.recipe_reader.specs.Payloads.{slug_cmp, recipe_with}
use Rattle.recipe_reader.specs.Kinds.{kind_of, kind_eq}
use Rattle.recipe_reader.specs.declared.recipe.Recipe.{Recipe}
use Rattle.enrol_states.specs.Order.{Rise, is_in}
use Rattle.enrol_states.specs.Statuses.{is_enrolled}
use Rattle.enrol_states.specs.State.{slugs_of}
use Rattle.enrol_states.specs.Recipes.{has_feature}
use Rattle.enrol_states.specs.Features.{shares_with, takes}
use Rattle.enrol_states.specs.Choices.{IsTaken}
use Rattle.enrol_states.specs.TextSets.{has_text}
use Rattle.enrol_states.specs.Least.{IsLeast, recipe_of_kind, rival_of}
use Rattle.enrol_states.specs.declared.state.State.{State}
use Rattle.enrol_states.specs.declared.state.Row.{Row}
use Rattle.enrol_states.proofs.Ordered.{rises_by}
use Rattle.enrol_states.proofs.Lookups.{slug_of}
use Rattle.enrol_states.proofs.Leasts.{IsLeast-same, le_itself, le_Less}

-- whether the recipe shares the feature with a rival, where there is one
abbrev sharing : List (List ℕ) → Recipe → Option Recipe → List ℕ → Bool
sharing coenrolling r None f = false
sharing coenrolling r (Some q) f = has_feature r f && (has_feature q f && not (is_in coenrolling f))

kind_at : (coenrolling : List (List ℕ)) (r q : Recipe) (f : List ℕ) (same : Bool) → (same && (has_feature r f && (has_feature q f && not (is_in coenrolling f)))) ≡ sharing coenrolling r (if same then Some q else None) f
kind_at coenrolling r q f true = refl
kind_at coenrolling r q f false = refl

rival_at : (coenrolling : List (List ℕ)) (r : Recipe) (f : List ℕ) (other enrolled : Bool) (q : Option Recipe) → (other && (enrolled && shares_with coenrolling r q f)) ≡ sharing coenrolling r (if other && enrolled then recipe_of_kind (kind_of r) q else None) f
rival_at coenrolling r f true true None = refl
rival_at coenrolling r f true true (Some q) = kind_at coenrolling r q f (kind_eq (kind_of r) (kind_of q))
rival_at coenrolling r f true false q = refl
rival_at coenrolling r f false enrolled q = refl

takes-rival : (s : State) (r : Recipe) (row : Row) (f : List ℕ) → takes s r row f ≡ sharing s.coenrolling r (rival_of s r row) f
takes-rival s r row f = rival_at s.coenrolling r f (not (bytes_eq row.slug r.slug)) (is_enrolled row.status) (recipe_with row.slug s.live)

turn : (a b n : Bool) → (a && (b && n)) ≡ ((a && n) && b)
turn true true true = refl
turn true true false = refl
turn true false true = refl
turn true false false = refl
turn false b n = refl

-- the least feature that the rival has is the least that the row takes
pub least-taken : (s : State) (r q : Recipe) (row : Row) (set : BTreeSet (Bor (List ℕ))) (least : Option (List ℕ)) → ((f : List ℕ) → has_text set f ≡ (has_feature r f && not (is_in s.coenrolling f))) → Some q ≡ rival_of s r row
    → IsLeast (λ f. has_text set f && has_feature q f) least → IsLeast (takes s r row) least
least-taken s r q row set least is_set rival h =
    IsLeast-same (λ f. has_text set f && has_feature q f) (takes s r row) least
    (λ f. ap (λ b. b && has_feature q f) (is_set f) ∙ sym (turn (has_feature r f) (has_feature q f) (not (is_in s.coenrolling f))) ∙ ap (λ o. sharing s.coenrolling r o f) rival ∙ sym (takes-rival s r row f)) h

-- a row without a rival takes nothing
pub none-taken : (s : State) (r : Recipe) (row : Row) → None ≡ rival_of s r row → (f : List ℕ) → takes s r row f ≡ false
none-taken s r row none f = takes-rival s r row f ∙ sym (ap (λ o. sharing s.coenrolling r o f) none)

-- each row before the i-th takes nothing
abbrev pub NoneTakenBefore : State → Recipe → List Row → ℕ → Type 0
NoneTakenBefore s r rows i = (k : ℕ) (d : Row) → k < i → (f : List ℕ) → takes s r (get_or rows k d) f ≡ false

above_first : (s : State) (i k : ℕ) (d e : Row) → i ≤ k → k < length s.rows → Rise (slugs_of s.rows) → IsTrue (is_le (slug_cmp (get_or s.rows i d).slug (get_or s.rows k e).slug))
above_first s i k d e least within rise =
    elim (cases_lt i k) [
      | inl less ↦ le_Less (get_or s.rows i d).slug (get_or s.rows k e).slug (subst (λ (q : Row). slug_cmp (get_or s.rows i d).slug q.slug ≡ Less) (get_or_default s.rows k d e within) (rises_by slug_of s.rows i k d less within rise))
      | inr most ↦ let here : i ≡ k = omega arith in
          le_itself (get_or s.rows i d).slug (get_or s.rows k e).slug (ap (λ m. (get_or s.rows m d).slug) here ∙ ap (λ (q : Row). q.slug) (get_or_default s.rows k d e within))
    ]

-- the first row that takes a feature has the least slug
pub first-taken : (s : State) (r : Recipe) (i : ℕ) (d : Row) (holder f : List ℕ) → i < length s.rows → Rise (slugs_of s.rows) → NoneTakenBefore s r s.rows i
    → holder ≡ (get_or s.rows i d).slug → IsLeast (takes s r (get_or s.rows i d)) (Some f) → IsTaken s r holder f
first-taken s r i d holder f within rise before same least = record {
  row = get_or s.rows i d;
  is_row = (i, within, get_or_default s.rows i (get_or s.rows i d) d within);
  slug = sym same;
  is_taken = least.0;
  least_slug = λ k e less g passes. elim (cases_lt k i) [
    | inl earlier ↦ let none = before k e earlier g in absurd cc
    | inr later ↦ subst (λ t. IsTrue (is_le (slug_cmp t (get_or s.rows k e).slug))) (sym same) (above_first s i k d e (omega arith) less rise)
  ];
  least_feature = least.1;
}

-- the same of a row and texts that a loop holds
pub taken-here : (s : State) (r : Recipe) (rows : List Row) (i : ℕ) (row : Row) (holder f g : List ℕ) → rows ≡ s.rows → i < length rows → row ≡ get_or rows i row → Rise (slugs_of s.rows) → NoneTakenBefore s r rows i
    → holder ≡ row.slug → f ≡ g → IsLeast (takes s r row) (Some g) → IsTaken s r holder f
taken-here s r rows i row holder f g same within here rise before slug text least =
    first-taken s r i row holder f (subst (λ rs. i < length rs) same within) rise (subst (λ rs. NoneTakenBefore s r rs i) same before) (slug ∙ ap (λ (q : Row). q.slug) there)
    (subst (λ t. IsLeast (takes s r (get_or s.rows i row)) (Some t)) (sym text) (subst (λ q. IsLeast (takes s r q) (Some g)) there least))
  where
    there : row ≡ get_or s.rows i row
    there = here ∙ ap (λ rs. get_or rs i row) same
