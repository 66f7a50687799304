-- Which wishes are granted: a declared list, one answer for each wish.
use Rattle.std.specs.Prelude.{◌≡◌, ◌≢◌, Contains, true, ℕ, List, Some, slice_get, map, zip, Bool, not, ◌&&◌}
use Rattle.std.specs.List.{list_any}
use Rattle.std.specs.declared.cmp.Ordering.{Ordering}
use Rattle.std.specs.Ordering.{on, then_cmp, flip_args, bool_cmp, int_cmp, nat_cmp, is_lt}
use Rattle.std.specs.Option.{option_cmp}
use Rattle.std.specs.Cmp.Lexicographic.{slice_cmp}
use Rattle.std.specs.List.Sorted.{IsStrictlySortedBy}
use Rattle.recipe_reader.specs.Kinds.{kind_eq}
use Rattle.enrol_states.specs.Order.{is_in}
use Rattle.enrol_conflicts.specs.declared.candidate.Candidate.{Candidate}

-- who was enrolled goes first; then the published moment, an absent one first; then the slug
abbrev pub rank_cmp : Candidate → Candidate → Ordering
rank_cmp = then_cmp (then_cmp (on (λ (c : Candidate). c.was_enrolled) (flip_args bool_cmp)) (on (λ (c : Candidate). c.published) (option_cmp int_cmp))) (on (λ (c : Candidate). c.slug) (slice_cmp nat_cmp))

-- v has a lower rank than w
abbrev pub is_before : Candidate → Candidate → Bool
is_before v w = is_lt (rank_cmp v w)

-- the same kind, and a shared feature outside coenrolling
abbrev pub clashes : List (List ℕ) → Candidate → Candidate → Bool
clashes coenrolling v w = kind_eq v.kind w.kind && list_any (λ f. is_in v.features f && not (is_in coenrolling f)) w.features

-- a granted wish passes the test
abbrev pub any_granted : {X : Type 0} → (X → Bool) → List X → List Bool → Bool
any_granted p wishes granted = list_any (λ e. e.1 && p e.0) (zip wishes granted)

-- a granted wish of lower rank clashes with w
abbrev pub is_blocked : List (List ℕ) → List Candidate → List Bool → Candidate → Bool
is_blocked coenrolling wishes granted w = any_granted (λ v. is_before v w && clashes coenrolling v w) wishes granted

-- each wish is granted exactly where no granted wish of lower rank clashes with it
abbrev pub Settled : List Candidate → List (List ℕ) → List Bool → Type 0
Settled wishes coenrolling granted = granted ≡ map (λ w. not (is_blocked coenrolling wishes granted w)) wishes

-- wishes at different places have different slugs
abbrev pub HaveOwnSlugs : List Candidate → Type 0
HaveOwnSlugs wishes = (i j : ℕ) (v w : Candidate) → slice_get wishes i ≡ Some v → slice_get wishes j ≡ Some w → v.slug ≡ w.slug → i ≡ j

-- two granted wishes with different slugs and of one kind share no feature outside coenrolling
abbrev pub GrantsAreExclusive : List Candidate → List (List ℕ) → List Bool → Type 0
GrantsAreExclusive wishes coenrolling granted = (i j : ℕ) (v w : Candidate) (f : List ℕ) → slice_get wishes i ≡ Some v → slice_get wishes j ≡ Some w → slice_get granted i ≡ Some true → slice_get granted j ≡ Some true → v.slug ≢ w.slug → v.kind ≡ w.kind → Contains v.features f → Contains w.features f → Contains coenrolling f

-- the wishes are in order by slug
abbrev pub SlugsRise : List Candidate → Type 0
SlugsRise wishes = IsStrictlySortedBy (slice_cmp nat_cmp) (map (λ (c : Candidate). c.slug) wishes)
