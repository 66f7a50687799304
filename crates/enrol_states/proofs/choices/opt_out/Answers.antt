use Rattle.std.proofs.Common.{rules, ◌≡◌, sym, subst}
use Rattle.enrol_states.specs.Consistent.{IsConsistent}
use Rattle.enrol_states.specs.Commands.{after_opt_out}
use Rattle.enrol_states.proofs.OptOuts.{consistent}
use Rattle.enrol_states.proofs.choices.opt_out.Goals as goal

is_after : (c : goal.In_ok-with_next) → c.in_ok-with_next.field-0.state ≡ after_opt_out c.args.state.now c.args.slug.now
is_after c = search rules

pub returns-clause-consistent : goal.returns-clause-consistent
returns-clause-consistent c = subst IsConsistent (sym (is_after c)) (consistent c.args.state.now c.args.slug.now c.slug_fits.ensures c.in_ok-opted_out.ensures.slugs.0 c.requires)
