use Rattle.std.proofs.Common.{sym, subst}
use Rattle.gate_journal.specs.Records.{IsOpen}
use Rattle.gate_journal.proofs.journal.find_journal.Goals as goal

pub returns-then-branch-clause-opened_where : goal.returns-then-branch-clause-opened_where
returns-then-branch-clause-opened_where g c tells generation payloads side =
    c.read_open.ensures.opened_where tells generation payloads (subst (IsOpen generation payloads) (sym ((c.is_open.ensures.still tells).reads_same c.args.side)) side)
