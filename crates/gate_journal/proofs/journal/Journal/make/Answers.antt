use Rattle.std.proofs.Common.{◌+◌, [], ◌∷◌, length, arith, length-append}
use Rattle.host_model.specs.Hosts.{MeetsAll, OnSideOf}
use Rattle.host_model.specs.Images.{Torn, IsAfter}
use Rattle.host_model.proofs.Meeting.{kept_twice}
use Rattle.gate_journal.proofs.Appending.{length-framed}
use Rattle.gate_journal.proofs.Making.{IsMade, made, made_bytes, made_done, opening_met, header_met, behind_met}
use Rattle.gate_journal.proofs.Ranges.{write_within, then_within}
use Rattle.gate_journal.specs.Journal.{IsShutOrHas}
use Rattle.gate_journal.specs.Records.{framed}
use Rattle.gate_journal.proofs.journal.Journal.make.Given.{Over}
use Rattle.gate_journal.proofs.journal.Journal.make.Goals.{After-write_synced-2}
use Rattle.gate_journal.proofs.journal.Journal.make.Goals as goal

-- what is so once the last write is over, whether it succeeds or not
module _ (g : Over) (c : After-write_synced-2 g) (tells : g.H.Host.tells) where
  stage : IsMade c.args.generation c.args.first.now c.requires.known c.requires.fits (g.H.Host.reads c.write_synced.new.host c.args.side)
  stage =
      let h = g.H.Host in
      let old = c.args.host.now in
      let side = c.args.side in
      made c.args.generation c.args.first.now c.requires.known c.requires.fits (h.reads old side) (h.reads c.write_at.new.self side) (h.reads c.write_synced.new.host side) c.written.result.now
      (c.requires.shut tells (h.reads old side) (g.met.H.Host.read_is_image old side tells)) (c.in_ok-write_at.ensures.after tells) c.written.ensures.bytes (c.in_ok-write_synced.ensures.after tells)

  moments : MeetsAll g.H.Host c.args.host.now c.write_synced-2.new.host (OnSideOf g.H.Host c.args.host.now c.args.side (IsShutOrHas c.args.generation c.args.first.now))
  moments =
      let h = g.H.Host in
      let old = c.args.host.now in
      let side = c.args.side in
      let payload = c.args.first.now in
      let behind = behind_met c.args.generation payload c.requires.known c.requires.fits h side old c.write_at.new.self c.write_synced.new.host 9 (length c.written.result.now)
      (c.requires.shut tells) (λ l r u met. g.met.H.Host.only_now old l r u tells met) (c.write_at.ensures.crash tells) (c.write_at.ensures.rest tells) (c.write_at.ensures.time tells) (c.write_synced.ensures.any_moment tells) in
      opening_met c.args.generation payload c.requires.known c.requires.fits h side old c.write_synced.new.host c.write_synced-2.new.host behind
      (kept_twice h.reads h.images h.said _ old c.write_at.new.self c.write_synced.new.host (c.write_at.ensures.rest tells) (c.write_synced.ensures.rest tells)) stage (c.in_ok-write_synced.ensures.durable tells) (c.write_synced-2.ensures.any_moment tells)

  range : MeetsAll g.H.Host c.args.host.now c.write_synced-2.new.host (OnSideOf g.H.Host c.args.host.now c.args.side (IsAfter (Torn 0 (length c.args.first.now + 15)) (g.H.Host.images c.args.host.now c.args.side)))
  range =
      let h = g.H.Host in
      let old = c.args.host.now in
      let size = length c.args.first.now + 15 in
      let mid = c.write_at.new.self in
      let late = c.write_synced.new.host in
      let first = write_within h old c.args.side 0 size mid 1 9 (omega arith) (omega arith)
      (λ l r u met. g.met.H.Host.only_now old l r u tells met) (c.write_at.ensures.crash tells) (c.write_at.ensures.rest tells) (c.write_at.ensures.time tells) in
      let second = then_within h old c.args.side 0 size mid late 10 (length c.written.result.now) (omega arith) (omega arith)
      (λ l r u le now. g.met.H.Host.counts_now mid (h.moment old) l r u tells le now) (λ s. g.met.H.Host.read_is_image mid s tells) first (c.write_at.ensures.rest tells) (c.write_synced.ensures.any_moment tells) in
      then_within h old c.args.side 0 size late c.write_synced-2.new.host 0 1 (omega arith) (omega arith)
      (λ l r u le now. g.met.H.Host.counts_now late (h.moment old) l r u tells le now) (λ s. g.met.H.Host.read_is_image late s tells) second
      (kept_twice h.reads h.images h.said _ old mid late (c.write_at.ensures.rest tells) (c.write_synced.ensures.rest tells)) (c.write_synced-2.ensures.any_moment tells)

-- the writes behind the first byte leave the side closed
pub returns-in_err-write_at-clause-any_moment : goal.returns-in_err-write_at-clause-any_moment
returns-in_err-write_at-clause-any_moment g c tells =
    let old = c.args.host.now in
    header_met c.args.generation c.args.first.now c.requires.known c.requires.fits g.H.Host c.args.side old c.write_at.new.self 9
    (c.requires.shut tells) (λ l r u met. g.met.H.Host.only_now old l r u tells met) (c.write_at.ensures.crash tells) (c.write_at.ensures.rest tells) (c.write_at.ensures.time tells)

pub returns-in_err-write_synced-clause-any_moment : goal.returns-in_err-write_synced-clause-any_moment
returns-in_err-write_synced-clause-any_moment g c tells =
    let old = c.args.host.now in
    behind_met c.args.generation c.args.first.now c.requires.known c.requires.fits g.H.Host c.args.side old c.write_at.new.self c.write_synced.new.host 9 (length c.written.result.now)
    (c.requires.shut tells) (λ l r u met. g.met.H.Host.only_now old l r u tells met) (c.write_at.ensures.crash tells) (c.write_at.ensures.rest tells) (c.write_at.ensures.time tells) (c.write_synced.ensures.any_moment tells)

-- and the last one opens it or doesn't
pub returns-in_err-write_synced-2-clause-any_moment : goal.returns-in_err-write_synced-2-clause-any_moment
returns-in_err-write_synced-2-clause-any_moment g c tells = moments g (goal.at.returns-in_err-write_synced-2-clause-any_moment g c).After-write_synced-2 tells

pub returns-clause-any_moment : goal.returns-clause-any_moment
returns-clause-any_moment g c tells = moments g (goal.at.returns-clause-any_moment g c).After-write_synced-2 tells

-- and then the payload is on the disk
pub returns-clause-made : goal.returns-clause-made
returns-clause-made g c tells =
    let h = g.H.Host in
    let side = c.args.side in
    let payload = c.args.first.now in
    let done = made_done c.args.generation payload c.requires.known c.requires.fits (h.reads c.write_synced.new.host side) (h.reads c.write_synced-2.new.host side) (stage g (goal.at.returns-clause-made g c).After-write_synced-2 tells) (c.in_ok-write_synced-2.ensures.after tells) in
    record {
      stands = record {
        side = done.side;
        place = omega (arith, length-framed payload, length-append (1 ∷ framed payload) []);
        only = c.in_ok-write_synced-2.ensures.durable tells;
      };
      gate = omega (arith, done.gate, length-framed payload, length-append (1 ∷ framed payload) []);
    }

pub returns-clause-bytes : goal.returns-clause-bytes
returns-clause-bytes g c tells =
    let h = g.H.Host in
    let old = c.args.host.now in
    let side = c.args.side in
    made_bytes c.args.generation c.args.first.now c.requires.known c.requires.fits (h.reads old side) (h.reads c.write_at.new.self side) (h.reads c.write_synced.new.host side)
    (h.reads c.write_synced-2.new.host side) c.written.result.now (c.requires.shut tells (h.reads old side) (g.met.H.Host.read_is_image old side tells))
    (c.in_ok-write_at.ensures.after tells) c.written.ensures.bytes (c.in_ok-write_synced.ensures.after tells) (c.in_ok-write_synced-2.ensures.after tells)

-- all three writes are within the journal's bytes
pub returns-in_err-write_at-clause-range : goal.returns-in_err-write_at-clause-range
returns-in_err-write_at-clause-range g c tells =
    let old = c.args.host.now in
    let size = length c.args.first.now + 15 in
    write_within g.H.Host old c.args.side 0 size c.write_at.new.self 1 9 (omega arith) (omega arith)
    (λ l r u met. g.met.H.Host.only_now old l r u tells met) (c.write_at.ensures.crash tells) (c.write_at.ensures.rest tells) (c.write_at.ensures.time tells)

pub returns-in_err-write_synced-clause-range : goal.returns-in_err-write_synced-clause-range
returns-in_err-write_synced-clause-range g c tells =
    let h = g.H.Host in
    let old = c.args.host.now in
    let size = length c.args.first.now + 15 in
    let mid = c.write_at.new.self in
    let first = write_within g.H.Host old c.args.side 0 size c.write_at.new.self 1 9 (omega arith) (omega arith)
    (λ l r u met. g.met.H.Host.only_now old l r u tells met) (c.write_at.ensures.crash tells) (c.write_at.ensures.rest tells) (c.write_at.ensures.time tells) in
    then_within h old c.args.side 0 size mid c.write_synced.new.host 10 (length c.written.result.now) (omega arith) (omega arith)
    (λ l r u le now. g.met.H.Host.counts_now mid (h.moment old) l r u tells le now) (λ s. g.met.H.Host.read_is_image mid s tells) first (c.write_at.ensures.rest tells) (c.write_synced.ensures.any_moment tells)

pub returns-in_err-write_synced-2-clause-range : goal.returns-in_err-write_synced-2-clause-range
returns-in_err-write_synced-2-clause-range g c tells = range g (goal.at.returns-in_err-write_synced-2-clause-range g c).After-write_synced-2 tells

pub returns-clause-range : goal.returns-clause-range
returns-clause-range g c tells = range g (goal.at.returns-clause-range g c).After-write_synced-2 tells
