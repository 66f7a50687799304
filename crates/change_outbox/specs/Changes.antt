-- The changes that one list of enrolment rows makes of another: in order by slug, and for each slug by itself.
use Rattle.std.specs.Prelude.{ℕ, List, [], ◌∷◌, fold, Option, Some, None, option_and_then, bytes_eq, if◌then◌else◌}
use Rattle.std.specs.BTreeSet.{insert_key}
use Rattle.std.specs.List.{flat_map}
use Rattle.recipe_reader.specs.Payloads.{slug_cmp}
use Rattle.enrol_states.specs.State.{slugs_of, status_of}
use Rattle.enrol_states.specs.Statuses.{enrolled_branch}
use Rattle.enrol_states.specs.declared.state.Row.{Row}
use Rattle.change_outbox.specs.declared.change.Change.{Change}
use Rattle.change_outbox.specs.declared.change.ChangeKind.TheVariants.{Join, Leave}

-- the branch in which the client takes part in the slug's recipe, if it does
abbrev pub branch_of : List ℕ → List Row → Option (List ℕ)
branch_of slug rows = option_and_then enrolled_branch (status_of slug rows)

abbrev pub join : List ℕ → List ℕ → Change
join slug branch = record { number = 0; slug = slug; kind = Join; branch = branch }

abbrev pub leave : List ℕ → List ℕ → Change
leave slug branch = record { number = 0; slug = slug; kind = Leave; branch = branch }

-- the changes of a slug, by its branch before and after: none where it stays, and else a leave of the one and then a join of the
-- other
abbrev pub slug_changes : List ℕ → Option (List ℕ) → Option (List ℕ) → List Change
slug_changes slug None None = []
slug_changes slug None (Some after) = join slug after ∷ []
slug_changes slug (Some before) None = leave slug before ∷ []
slug_changes slug (Some before) (Some after) = if bytes_eq before after then [] else leave slug before ∷ join slug after ∷ []

-- the slugs of all rows, in order
abbrev pub all_slugs : List Row → List Row → List (List ℕ)
all_slugs old new = fold (insert_key slug_cmp) (slugs_of old) (slugs_of new)

unfoldable pub changes_between : List Row → List Row → List Change
changes_between old new = flat_map (λ slug. slug_changes slug (branch_of slug old) (branch_of slug new)) (all_slugs old new)
