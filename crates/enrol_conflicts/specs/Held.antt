-- The features that granted wishes hold, by kind.
use Rattle.std.specs.Prelude.{ℕ, List, Bool}
use Rattle.std.specs.List.{list_any}
use Rattle.std.specs.BTreeSet.{BTreeSet}
use Rattle.std.specs.Borrow.{Bor}
use Rattle.recipe_reader.specs.declared.kinds.Kind.{Kind}
use Rattle.recipe_reader.specs.declared.kinds.Kind.TheVariants.{Experiment, Rollout}
use Rattle.enrol_states.specs.TextSets.{has_text}
use Rattle.enrol_conflicts.specs.declared.candidate.Candidate.{Candidate}
use Rattle.enrol_conflicts.specs.declared.held.HeldFeatures.{HeldFeatures}

-- the features that are held by wishes of the kind
abbrev pub features_of_kind : HeldFeatures → Kind → BTreeSet (Bor (List ℕ))
features_of_kind held Experiment = held.experiments
features_of_kind held Rollout = held.rollouts

abbrev pub is_held : HeldFeatures → Kind → List ℕ → Bool
is_held held kind f = has_text (features_of_kind held kind) f

-- whether a feature of the wish is held by a wish of its kind
abbrev pub is_taken : HeldFeatures → Candidate → Bool
is_taken held w = list_any (λ f. is_held held w.kind f) w.features
