use Rattle.std.proofs.Common.{rules, sym, subst}
use Rattle.enrol_states.specs.Consistent.{IsConsistent}
use Rattle.enrol_states.proofs.Fresh.{reset-consistent}
use Rattle.enrol_states.proofs.choices.reset.Goals as goal

pub returns-clause-consistent : goal.returns-clause-consistent
returns-clause-consistent c = subst IsConsistent (sym (search rules)) (reset-consistent c.args.state.now c.args.id c.id_fits.ensures c.requires)
