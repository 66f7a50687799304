use Rattle.std.proofs.Common.{ℕ, ◌+◌, ◌-◌, ◌<◌, List, length, arith}
use Rattle.host_model.specs.Hosts.{MeetsAll, OnSideOf}
use Rattle.host_model.specs.Images.{Torn, IsAfter}
use Rattle.gate_journal.specs.Journal.{StandsWithGate, IsBeforeOrAfter}
use Rattle.gate_journal.proofs.Appending.{first_met, second_met, appended, appended_bytes}
use Rattle.gate_journal.proofs.Ranges.{record_within, gate_within}
use Rattle.gate_journal.proofs.journal.Journal.append.Given.{Over}
use Rattle.gate_journal.proofs.journal.Journal.append.Goals.{After-write_synced-2}
use Rattle.gate_journal.proofs.journal.Journal.append.Goals as goal

-- what is so once the second write is over, whether it succeeds or not
module _ (g : Over) (c : After-write_synced-2 g) (tells : g.H.Host.tells) where
  moments : (payloads : List (List ℕ)) → StandsWithGate g.H.Host c.args.self.now c.args.host.now payloads
      → MeetsAll g.H.Host c.args.host.now c.write_synced-2.new.host (OnSideOf g.H.Host c.args.host.now c.args.self.now.side (IsBeforeOrAfter c.args.self.now.generation payloads c.args.next.now))
  moments payloads gated =
      let fits : c.args.self.now.place + length c.args.next.now + 5 < 67108864 = omega arith in
      second_met g.H.Host _ _ c.self.view_is c.args.host.now payloads c.args.next.now fits gated (length c.written.result.now) c.write_synced.new.host c.write_synced-2.new.host c.written.result.now
      (c.write_synced.ensures.any_moment tells) (c.write_synced.ensures.rest tells) c.written.ensures.bytes (c.in_ok-write_synced.ensures.after tells) (c.in_ok-write_synced.ensures.durable tells) (c.write_synced-2.ensures.any_moment tells)

  range : MeetsAll g.H.Host c.args.host.now c.write_synced-2.new.host (OnSideOf g.H.Host c.args.host.now c.args.self.now.side (IsAfter (Torn c.args.self.now.place (length c.args.next.now + 6)) (g.H.Host.images c.args.host.now c.args.self.now.side)))
  range =
      let mid = c.write_synced.new.host in
      gate_within g.H.Host _ _ c.self.view_is c.args.host.now (length c.args.next.now) (length c.written.result.now) (omega arith) mid c.write_synced-2.new.host
      (λ l r u le now. g.met.H.Host.counts_now mid (g.H.Host.moment c.args.host.now) l r u tells le now) (λ s. g.met.H.Host.read_is_image mid s tells)
      (c.write_synced.ensures.any_moment tells) (c.write_synced.ensures.rest tells) (c.write_synced-2.ensures.any_moment tells)

-- the first write leaves the payloads as they were
pub returns-in_err-write_synced-clause-any_moment : goal.returns-in_err-write_synced-clause-any_moment
returns-in_err-write_synced-clause-any_moment g c tells payloads gated =
    let fits : c.args.self.now.place + length c.args.next.now + 5 < 67108864 = omega arith in
    first_met g.H.Host _ _ c.self.view_is c.args.host.now payloads c.args.next.now fits gated (length c.written.result.now) c.write_synced.new.host (c.write_synced.ensures.any_moment tells)

-- the second leaves them, or these and the next
pub returns-in_err-write_synced-2-clause-any_moment : goal.returns-in_err-write_synced-2-clause-any_moment
returns-in_err-write_synced-2-clause-any_moment g c tells payloads gated = moments g (goal.at.returns-in_err-write_synced-2-clause-any_moment g c).After-write_synced-2 tells payloads gated

pub returns-clause-any_moment : goal.returns-clause-any_moment
returns-clause-any_moment g c tells payloads gated = moments g (goal.at.returns-clause-any_moment g c).After-write_synced-2 tells payloads gated

-- and then the next payload is on the disk
pub returns-clause-acknowledged : goal.returns-clause-acknowledged
returns-clause-acknowledged g c tells payloads stands =
    appended g.H.Host _ _ c.self.view_is c.args.host.now c.write_synced.new.host c.write_synced-2.new.host payloads c.args.next.now c.written.result.now (c.end_after-end.result - 1) (omega arith) (omega arith) stands
    c.written.ensures.bytes (c.in_ok-write_synced.ensures.after tells) (c.in_ok-write_synced-2.ensures.after tells) (c.in_ok-write_synced-2.ensures.durable tells)

-- both writes are within the record and its gate
pub returns-in_err-write_synced-clause-range : goal.returns-in_err-write_synced-clause-range
returns-in_err-write_synced-clause-range g c tells =
    record_within g.H.Host _ _ c.self.view_is c.args.host.now (length c.args.next.now) (length c.written.result.now) (omega arith) c.write_synced.new.host (c.write_synced.ensures.any_moment tells)

pub returns-in_err-write_synced-2-clause-range : goal.returns-in_err-write_synced-2-clause-range
returns-in_err-write_synced-2-clause-range g c tells = range g (goal.at.returns-in_err-write_synced-2-clause-range g c).After-write_synced-2 tells

pub returns-clause-range : goal.returns-clause-range
returns-clause-range g c tells = range g (goal.at.returns-clause-range g c).After-write_synced-2 tells

-- the bytes of the record stand from the gate on
pub returns-clause-bytes : goal.returns-clause-bytes
returns-clause-bytes g c tells =
    let stands = c.requires.stands tells in
    appended_bytes g.H.Host _ _ c.self.view_is c.args.host.now c.write_synced.new.host c.write_synced-2.new.host stands.0 c.args.next.now c.written.result.now stands.1
    c.written.ensures.bytes (c.in_ok-write_synced.ensures.after tells) (c.in_ok-write_synced-2.ensures.after tells)
