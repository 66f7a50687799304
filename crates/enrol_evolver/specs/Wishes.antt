-- The wishes of an apply, and what comes of them.
use Rattle.std.specs.Prelude.{◌≡◌, ℕ, Bool, true, false, List, [], ◌∷◌, ◌++◌, fold, map, filter, Option, bytes_eq, if◌then◌else◌}
use Rattle.std.specs.BTreeSet.{BTreeSet}
use Rattle.std.specs.Borrow.{Bor}
use Rattle.std.specs.List.{flat_map}
use Rattle.recipe_reader.specs.Kinds.{kind_of, published_at}
use Rattle.recipe_reader.specs.declared.recipe.Recipe.{Recipe}
use Rattle.app_context.specs.declared.context.Context.{Context}
use Rattle.enrol_states.specs.Order.{is_in}
use Rattle.enrol_states.specs.TextSets.{has_text}
use Rattle.enrol_states.specs.State.{status_of}
use Rattle.enrol_states.specs.Statuses.{is_enrolled_now}
use Rattle.enrol_states.specs.Transitions as transitions
use Rattle.enrol_states.specs.declared.state.State.{State}
use Rattle.enrol_states.specs.declared.state.Row.{Row}
use Rattle.enrol_states.specs.declared.status.Status.{Status}
use Rattle.enrol_states.specs.declared.verdict.Outcome.{Outcome}
use Rattle.enrol_states.specs.declared.verdict.Outcome.TheVariants.{Keep, Wish}
use Rattle.enrol_conflicts.specs.Settlement.{any_granted}
use Rattle.enrol_conflicts.proofs.Uniqueness.{settleable}
use Rattle.enrol_conflicts.specs.declared.candidate.Candidate.{Candidate}
use Rattle.enrol_evolver.specs.Verdicts.{verdict_from}
use Rattle.enrol_evolver.specs.declared.plan.Entry.{Entry}

-- the texts with one more, unless it is there
abbrev pub with_once : List (List ℕ) → List ℕ → List (List ℕ)
with_once ts t = if is_in ts t then ts else ts ++ t ∷ []

-- the features of all branches, each once
abbrev pub features_of : Recipe → List (List ℕ)
features_of r = fold with_once [] (flat_map (λ b. map (λ v. v.feature) b.features) r.branches)

-- the set has these texts
abbrev pub AreSeen : BTreeSet (Bor (List ℕ)) → List (List ℕ) → Type 0
AreSeen seen ts = (t : List ℕ) → has_text seen t ≡ is_in ts t

-- the wish to be enrolled in the recipe, of a client that is enrolled in it already or not
abbrev pub candidate_of : Bool → Recipe → Candidate
candidate_of was_enrolled r = record { slug = r.slug; kind = kind_of r; features = features_of r; was_enrolled = was_enrolled; published = published_at r }

-- what follows for a client with this old status or none
abbrev pub outcome_from : Context → State → ℕ → Recipe → Option Status → Outcome
outcome_from context s now r old = transitions.outcome old (verdict_from context s now r old) r

-- what follows from the verdict on the recipe
abbrev pub outcome_of : Context → State → ℕ → Recipe → Outcome
outcome_of context s now r = outcome_from context s now r (status_of r.slug s.rows)

-- the same, under the recipe's slug
abbrev pub entry_of : Context → State → ℕ → Recipe → Entry
entry_of context s now r = record { slug = r.slug; outcome = outcome_of context s now r }

abbrev pub is_wish : Outcome → Bool
is_wish (Keep status) = false
is_wish (Wish won lost) = true

-- the wishes to be enrolled in these recipes
abbrev pub wishes_among : Context → State → ℕ → List Recipe → List Candidate
wishes_among context s now rs = map (λ r. candidate_of (is_enrolled_now (status_of r.slug s.rows)) r) (filter (λ r. is_wish (outcome_of context s now r)) rs)

-- the wishes to be enrolled in live recipes
abbrev pub wishes_of : Context → State → ℕ → List Candidate
wishes_of context s now = wishes_among context s now s.live

-- the one settled list of grants
unfoldable pub grants_of : List Candidate → List (List ℕ) → List Bool
grants_of wishes coenrolling = (settleable wishes coenrolling).0

-- whether the slug's wish is granted
abbrev pub is_granted : List Candidate → List Bool → List ℕ → Bool
is_granted wishes granted slug = any_granted (λ w. bytes_eq w.slug slug) wishes granted

-- the new status, where a wish is granted or not
abbrev pub status_by : Outcome → Bool → Status
status_by (Keep status) granted = status
status_by (Wish won lost) granted = if granted then won else lost

abbrev pub row_of : List ℕ → Status → Row
row_of slug status = record { slug = slug; status = status }

-- the new row after an outcome, where these wishes are granted or not
abbrev pub settled_row : List Candidate → List Bool → Entry → Row
settled_row wishes granted entry = row_of entry.slug (status_by entry.outcome (is_granted wishes granted entry.slug))
