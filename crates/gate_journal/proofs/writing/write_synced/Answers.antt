use Rattle.std.proofs.Common.{length, sym, ◌∙◌}
use Rattle.host_model.specs.Hosts.{MeetsAll, OnSideOf}
use Rattle.host_model.specs.Images.{Torn, IsAfter}
use Rattle.host_model.proofs.Meeting.{started, goes_on, kept_twice, met_on_side, met_at_start}
use Rattle.host_model.proofs.Tearing.{torn_none}
use Rattle.gate_journal.proofs.Answering.{both_ok}
use Rattle.gate_journal.proofs.writing.write_synced.Given.{Over}
use Rattle.gate_journal.proofs.writing.write_synced.Goals.{After-write_at}
use Rattle.gate_journal.proofs.writing.write_synced.Goals as goal

-- what is met during the write
written : (g : Over) (c : After-write_at g) → g.H.Host.tells → MeetsAll g.H.Host c.args.host.now c.write_at.new.self (OnSideOf g.H.Host c.args.host.now c.args.side (IsAfter (Torn c.args.at (length c.args.bytes.now)) (g.H.Host.images c.args.host.now c.args.side)))
written g c tells =
    let h = g.H.Host in
    let start = c.args.host.now in
    let n = length c.args.bytes.now in
    let P = IsAfter (Torn c.args.at n) (h.images start c.args.side) in
    let Q = OnSideOf h start c.args.side P in
    let at_start = started h.moment h.might start Q (λ l r u met.
    met_at_start h.reads h.images h.said c.args.side start P (λ d left. (d, left, torn_none c.args.at n d)) l r u (g.met.H.Host.only_now start l r u tells met)) in
    goes_on h.moment h.might start start c.write_at.new.self Q _ at_start (c.write_at.ensures.time tells)
    (met_on_side h.reads h.images h.said c.args.side start c.write_at.new.self P (c.write_at.ensures.crash tells) (c.write_at.ensures.rest tells))

pub returns-in_err-write_at-clause-any_moment : goal.returns-in_err-write_at-clause-any_moment
returns-in_err-write_at-clause-any_moment g c tells = written g (goal.at.returns-in_err-write_at-clause-any_moment g c).After-write_at tells

pub returns-clause-any_moment : goal.returns-clause-any_moment
returns-clause-any_moment g c tells =
    let h = g.H.Host in
    let start = c.args.host.now in
    let P = IsAfter (Torn c.args.at (length c.args.bytes.now)) (h.images start c.args.side) in
    let first = written g (goal.at.returns-clause-any_moment g c).After-write_at tells in
    goes_on h.moment h.might start c.write_at.new.self c.sync.new.self (OnSideOf h start c.args.side P) _ first (c.sync.ensures.time tells)
    (met_on_side h.reads h.images h.said c.args.side start c.sync.new.self P (λ d left. c.write_at.ensures.crash tells d (c.sync.ensures.crash tells d left))
    (kept_twice h.reads h.images h.said _ _ _ _ (c.write_at.ensures.rest tells) (c.sync.ensures.rest tells)))

pub returns-clause-durable : goal.returns-clause-durable
returns-clause-durable g c tells =
    both_ok c.sync.result (λ only same image left. only image left ∙ sym same) (c.sync.ensures.durable tells) (c.sync.ensures.after tells)
