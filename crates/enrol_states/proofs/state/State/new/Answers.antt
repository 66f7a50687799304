use Rattle.std.proofs.Common.{subst}
use Rattle.enrol_states.specs.Consistent.{IsConsistent}
use Rattle.enrol_states.proofs.Fresh.{fresh-consistent}
use Rattle.enrol_states.proofs.state.State.new.Goals as goal

pub returns-clause-consistent : goal.returns-clause-consistent
returns-clause-consistent c =
    let version = c.from_string.ensures in
    let opted_out = c.new-2.ensures in
    let coenrolling = c.new-3.ensures in
    let live = c.new-4.ensures in
    let rows = c.new-5.ensures in
    let empty = fresh-consistent c.args.id c.args.now c.id_fits.ensures c.requires in
    subst IsConsistent (cc) empty
