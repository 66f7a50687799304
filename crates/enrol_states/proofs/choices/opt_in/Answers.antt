use Rattle.std.proofs.Common.{rules, sym, subst}
use Rattle.enrol_states.specs.Consistent.{IsConsistent}
use Rattle.enrol_states.specs.Features.{IsFree}
use Rattle.enrol_states.specs.Choices.{MayChoose}
use Rattle.enrol_states.proofs.Enrolments.{consistent}
use Rattle.enrol_states.proofs.choices.opt_in.Goals as goal

may_choose : (c : goal.In_ok-enrolled) → MayChoose c.args.state.now c.args.slug.now c.args.branch.now c.in-Some.recipe.now
may_choose c = record { participating = search rules; recipe = search rules; offered = search rules }

is_free : (c : goal.In_ok-enrolled) → IsFree c.args.state.now c.in-Some.recipe.now
is_free c = search rules

pub returns-clause-consistent : goal.returns-clause-consistent
returns-clause-consistent c =
    subst IsConsistent (sym c.in_ok-enrolled.ensures.state) (consistent c.args.state.now c.args.slug.now c.args.branch.now c.in-Some.recipe.now c.slug_fits.ensures c.slug_fits-2.ensures (may_choose c) (is_free c) c.requires)
