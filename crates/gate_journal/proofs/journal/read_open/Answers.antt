-- What the front of a side tells of it.
use Rattle.std.proofs.Common.{◌≡◌, take, sym, subst, arith}
use Rattle.std.proofs.lemmas.Result.{IfOk-weaker}
use Rattle.gate_journal.specs.declared.format.TheConstants.{MAX_SIDE_END}
use Rattle.gate_journal.specs.Records.{IsClosed, IsOpen, IsNoJournal}
use Rattle.gate_journal.proofs.Fronts.{closed_by_front, open_front, open_by_front, no_journal_front, no_journal_by_front}
use Rattle.gate_journal.proofs.journal.read_open.Goals as goal

pub returns-clause-opened : goal.returns-clause-opened
returns-clause-opened g c tells =
    let reads = g.H.Host.reads c.args.host.now c.args.side in
    let front : c.in_ok-bytes.bytes.items ≡ take MAX_SIDE_END reads = c.in_ok-bytes.ensures.bytes tells in
    IfOk-weaker c.read_journal.result _ (λ found. IsOpen found.0.generation found.1 reads)
    (λ found side. open_by_front MAX_SIDE_END found.0.generation found.1 reads side.fits (subst (IsOpen found.0.generation found.1) front side)) c.read_journal.ensures.opened

pub returns-clause-opened_where : goal.returns-clause-opened_where
returns-clause-opened_where g c tells generation payloads side =
    let reads = g.H.Host.reads c.args.host.now c.args.side in
    let front : c.in_ok-bytes.bytes.items ≡ take MAX_SIDE_END reads = c.in_ok-bytes.ensures.bytes tells in
    c.read_journal.ensures.opened_where generation payloads (subst (IsOpen generation payloads) (sym front) (open_front MAX_SIDE_END generation payloads reads side.fits side))

pub returns-clause-closed : goal.returns-clause-closed
returns-clause-closed g c tells is =
    let reads = g.H.Host.reads c.args.host.now c.args.side in
    let front : c.in_ok-bytes.bytes.items ≡ take MAX_SIDE_END reads = c.in_ok-bytes.ensures.bytes tells in
    closed_by_front MAX_SIDE_END reads (omega arith) (subst IsClosed front (c.read_journal.ensures.closed is))

pub returns-clause-no_journal : goal.returns-clause-no_journal
returns-clause-no_journal g c tells is =
    let reads = g.H.Host.reads c.args.host.now c.args.side in
    let front : c.in_ok-bytes.bytes.items ≡ take MAX_SIDE_END reads = c.in_ok-bytes.ensures.bytes tells in
    no_journal_by_front reads (subst IsNoJournal front (c.read_journal.ensures.no_journal is))

pub returns-clause-no_journal_where : goal.returns-clause-no_journal_where
returns-clause-no_journal_where g c tells none =
    let reads = g.H.Host.reads c.args.host.now c.args.side in
    let front : c.in_ok-bytes.bytes.items ≡ take MAX_SIDE_END reads = c.in_ok-bytes.ensures.bytes tells in
    c.read_journal.ensures.no_journal_where (subst IsNoJournal (sym front) (no_journal_front reads none))
