-- One step of a walk over old and new rows, which both rise by slug.
use Rattle.std.specs.Prelude.{◌≡◌, ◌<◌, ◌+◌, List, ◌++◌, length, option_map}
use Rattle.enrol_states.specs.Order.{Rise}
use Rattle.enrol_states.specs.State.{slugs_of}
use Rattle.enrol_states.specs.declared.state.Row.{Row}
use Rattle.change_outbox.specs.Changes.{slug_changes, changes_between}
use Rattle.change_outbox.specs.declared.walking.Step.{Step}

pub record AreInOrder (old new : List Row) : Type 0 where
  pub old_rows : Rise (slugs_of old)
  pub new_rows : Rise (slugs_of new)

-- the step's changes come first, and then those between the rows that are left, which are fewer
pub record IsStep (old new : List Row) (step : Step) : Type 0 where
  pub split : changes_between old new ≡ slug_changes step.slug.now (option_map (λ b. b.now) step.before) (option_map (λ b. b.now) step.after) ++ changes_between step.olds.now step.news.now
  pub fewer : length step.olds.now + length step.news.now < length old + length new
  pub order : AreInOrder step.olds.now step.news.now
