-- Both kinds.
use Rattle.std.proofs.Common.{Bool, Result, Ok, Err, IsTrue}
use Rattle.std.specs.Prelude.{IfOk, ◌↔◌}
use Rattle.std.specs.declared.alloc.AllocError.{AllocError}
use Rattle.recipe_reader.specs.declared.kinds.Kind.TheVariants.{Experiment, Rollout}
use Rattle.enrol_states.specs.Order.{Rise}
use Rattle.enrol_states.specs.State.{slugs_of}
use Rattle.enrol_states.specs.Exclusive.{AreExclusive}
use Rattle.enrol_states.specs.Holding.{AreApart}
use Rattle.enrol_states.specs.declared.state.State.{State}
use Rattle.enrol_states.proofs.Holdings.{apart_exclusive, exclusive_apart}
use Rattle.enrol_states.proofs.exclusive.is_exclusive.Goals as goal

by_both : (s : State) (got : Result Bool AllocError) → Rise (slugs_of s.rows) → AreApart s Rollout → IfOk got (λ b. IsTrue b ↔ AreApart s Experiment) → IfOk got (λ b. IsTrue b ↔ AreExclusive s)
by_both s (Ok b) rise rollouts experiments = (λ is. apart_exclusive s rollouts (experiments.0 is), λ ex. experiments.1 (exclusive_apart s Experiment rise ex))
by_both s (Err e) rise rollouts experiments = tt

pub returns-then-not-branch : goal.returns-then-not-branch
returns-then-not-branch c = (
  λ never. absurd cc,
  λ ex. let apart = c.in_ok-are_apart.ensures.1 (exclusive_apart c.args.state.now Rollout c.requires.rows ex) in absurd cc,
)

pub returns : goal.returns
returns c = by_both c.args.state.now c.are_apart-2.result c.requires.rows (c.in_ok-are_apart.ensures.0 c.if-not-branch.false) c.are_apart-2.ensures
