-- Participation: a client takes part in experiments, in rollouts, in both or in none.
use Rattle.std.specs.Prelude.{Bool, true, false, Option, Some, None}
use Rattle.recipe_reader.specs.Kinds.{kind_of, kind_eq}
use Rattle.recipe_reader.specs.declared.kinds.Kind.{Kind}
use Rattle.recipe_reader.specs.declared.kinds.Kind.TheVariants.{Experiment, Rollout}
use Rattle.recipe_reader.specs.declared.recipe.Recipe.{Recipe}
use Rattle.enrol_states.specs.declared.state.State.{State}
use Rattle.enrol_states.specs.declared.participation.Kinds.{Kinds}
use Rattle.enrol_states.specs.declared.participation.Kinds.TheVariants as kinds_of

-- whether participation of recipes of the kind is on
abbrev pub takes_part : State → Kind → Bool
takes_part s Experiment = s.experiments
takes_part s Rollout = s.rollouts

-- whether participation of the recipe's kind is on; nothing is off where there is no recipe
abbrev pub may_take_part : State → Option Recipe → Bool
may_take_part s None = true
may_take_part s (Some r) = takes_part s (kind_of r)

-- whether the kind is one of these
abbrev pub covers : Kinds → Kind → Bool
covers kinds_of.Both kind = true
covers kinds_of.Experiments kind = kind_eq kind Experiment
covers kinds_of.Rollouts kind = kind_eq kind Rollout

-- whether there is a recipe, and its kind is one of these
abbrev pub covers_recipe : Kinds → Option Recipe → Bool
covers_recipe kinds None = false
covers_recipe kinds (Some r) = covers kinds (kind_of r)
