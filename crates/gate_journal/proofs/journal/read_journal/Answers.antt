use Rattle.gate_journal.specs.Parts.{payloads_in}
use Rattle.gate_journal.specs.Records.{IsOpen}
use Rattle.std.proofs.Common.{List, ℕ, rules}
use Rattle.gate_journal.proofs.journal.read_journal.Goals as goal

pub returns-clause-no_journal_where : goal.returns-clause-no_journal_where
returns-clause-no_journal_where c none =
    let payloads : List (List ℕ) = payloads_in c.args.bytes.items c.in-Some-2.parts.items in
    let side : IsOpen c.in-Some.generation payloads c.args.bytes.items = search rules in
    absurd (none.no_journal c.in-Some.generation payloads side)
