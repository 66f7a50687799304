-- Laws of the definitions alone.
use Rattle.std.specs.Prelude.{◌≡◌, ◌↔◌, ℕ, List, length, slice_get, Some, Bool, true, Contains}
use Rattle.std.specs.declared.cmp.Ordering.TheVariants.{Less}
use Rattle.enrol_conflicts.specs.declared.candidate.Candidate.{Candidate}
use Rattle.enrol_conflicts.specs.Settlement.{rank_cmp, Settled, GrantsAreExclusive, HaveOwnSlugs, SlugsRise}

-- some list is settled
abbrev pub IsSettleable : Type 0
IsSettleable = (wishes : List Candidate) (coenrolling : List (List ℕ)) → (granted : List Bool) × Settled wishes coenrolling granted

-- and no other
abbrev pub IsSettledOnce : Type 0
IsSettledOnce = (wishes : List Candidate) (coenrolling : List (List ℕ)) → (a b : List Bool) → Settled wishes coenrolling a → Settled wishes coenrolling b → a ≡ b

-- two granted wishes with different slugs and of one kind share no feature outside coenrolling
abbrev pub IsExclusive : Type 0
IsExclusive = (wishes : List Candidate) (coenrolling : List (List ℕ)) (granted : List Bool) → Settled wishes coenrolling granted → GrantsAreExclusive wishes coenrolling granted

-- wishes in order by slug have slugs of their own
abbrev pub DifferInOrder : Type 0
DifferInOrder = (wishes : List Candidate) → SlugsRise wishes → HaveOwnSlugs wishes

-- one kind, and a shared feature outside coenrolling
abbrev pub Clashes : List (List ℕ) → Candidate → Candidate → Type 0
Clashes coenrolling v w = (v.kind ≡ w.kind) × ((f : List ℕ) × Contains v.features f × Contains w.features f × (Contains coenrolling f → ⊥))

-- a granted wish of lower rank clashes with w
abbrev pub IsBlocked : List Candidate → List (List ℕ) → List Bool → Candidate → Type 0
IsBlocked wishes coenrolling granted w = (j : ℕ) × (v : Candidate) × (slice_get wishes j ≡ Some v) × (slice_get granted j ≡ Some true) × (rank_cmp v w ≡ Less) × Clashes coenrolling v w

-- `Settled` in these words: a wish is granted exactly where it isn't blocked
abbrev pub IsSettledInWords : List Candidate → List (List ℕ) → List Bool → Type 0
IsSettledInWords wishes coenrolling granted = (length granted ≡ length wishes) × ((i : ℕ) (w : Candidate) → slice_get wishes i ≡ Some w → (slice_get granted i ≡ Some true) ↔ (IsBlocked wishes coenrolling granted w → ⊥))

abbrev pub SettledSays : Type 0
SettledSays = (wishes : List Candidate) (coenrolling : List (List ℕ)) (granted : List Bool) → Settled wishes coenrolling granted ↔ IsSettledInWords wishes coenrolling granted
