use Rattle.std.proofs.Common.{inr, ℕ, List, Err, refl, sym, ◌∙◌, ap, subst}
use Rattle.host_model.specs.declared.side.Side.{Side}
use Rattle.gate_journal.specs.Opening.{SyncsAndReads}
use Rattle.gate_journal.specs.Records.{IsOpen}
use Rattle.gate_journal.specs.declared.faults.OpenFault.{OpenFault}
use Rattle.pair_store.proofs.Synced.{side_read, synced_and_read, then_still}
use Rattle.pair_store.proofs.reading.found.Given.{Over}
use Rattle.pair_store.proofs.reading.found.Goals.{After-found_closed}
use Rattle.pair_store.proofs.reading.found.Goals as goal

pub returns-in-Ok-clause-found : goal.returns-in-Ok-clause-found
returns-in-Ok-clause-found g c tells =
    let h = g.H.Host in
    let journal = c.in-Ok.journal in
    let payloads = c.in-Ok.payloads in
    let found = c.in-Ok.ensures.opened tells in
    let same = c.open.ensures.same tells (λ failed. let both = sym c.in-Ok.is ∙ failed in cc) in
    c.found_open.ensures c.args.side (h.reads c.args.host.now c.args.side) (record {
      of_side = refl;
      open_with = subst (λ (image : List ℕ). IsOpen journal.generation payloads image) same
          (subst (λ (s : Side). IsOpen journal.generation payloads (h.reads c.open.new.host s)) c.in-Ok.ensures.side found.side);
      place = found.place;
    })

pub returns-in-Err-NotAJournal-clause-found : goal.returns-in-Err-NotAJournal-clause-found
returns-in-Err-NotAJournal-clause-found g c tells =
    let none = c.open.ensures.no_journal tells (c.in-Err-NotAJournal.is ∙ ap (λ (e : OpenFault). Err e) c.in-Err-NotAJournal.field-0-is) in
    record { first = none.first; starts = none.starts; none = λ generation payloads reading some. none.no_journal generation payloads reading }

-- its phases

pub returns-in-Ok-clause-phases : goal.returns-in-Ok-clause-phases
returns-in-Ok-clause-phases g c tells =
    side_read g.H.Host c.args.side c.args.host.now c.open.new.host c.open.result _ (λ failed. let both = sym c.in-Ok.is ∙ failed in cc) (c.open.ensures.phases tells)

pub returns-in-Err-NotAJournal-clause-phases : goal.returns-in-Err-NotAJournal-clause-phases
returns-in-Err-NotAJournal-clause-phases g c tells =
    let is = c.in-Err-NotAJournal.is ∙ ap (λ (e : OpenFault). Err e) c.in-Err-NotAJournal.field-0-is in
    side_read g.H.Host c.args.side c.args.host.now c.open.new.host c.open.result _ (λ failed. let both = sym is ∙ failed in cc) (c.open.ensures.phases tells)

pub returns-in-Err-DiskFault-clause-phases : goal.returns-in-Err-DiskFault-clause-phases
returns-in-Err-DiskFault-clause-phases g c tells =
    side_read g.H.Host c.args.side c.args.host.now c.open.new.host c.open.result _ (λ failed. refl) (c.open.ensures.phases tells)

pub returns-in-Err-OutOfMemory-clause-phases : goal.returns-in-Err-OutOfMemory-clause-phases
returns-in-Err-OutOfMemory-clause-phases g c tells =
    let is = c.in-Err-OutOfMemory.is ∙ ap (λ (e : OpenFault). Err e) c.in-Err-OutOfMemory.field-0-is in
    side_read g.H.Host c.args.side c.args.host.now c.open.new.host c.open.result _ (λ failed. let both = sym is ∙ failed in cc) (c.open.ensures.phases tells)

still_read : (g : Over) (c : After-found_closed g) → g.H.Host.tells → SyncsAndReads g.H.Host c.args.side c.args.host.now c.found_closed.new.host
still_read g c tells =
    let is = c.in-Err-Closed.is ∙ ap (λ (e : OpenFault). Err e) c.in-Err-Closed.field-0-is in
    then_still g.H.Host c.args.side c.args.host.now c.open.new.host c.found_closed.new.host
    (synced_and_read g.H.Host c.args.side c.args.host.now c.open.new.host c.open.result (λ failed. let both = sym is ∙ failed in cc) (c.open.ensures.phases tells))
    (c.found_closed.ensures.still tells) (c.found_closed.ensures.any_moment tells)

pub returns-in_err-found_closed-in-Err-Closed-clause-phases : goal.returns-in_err-found_closed-in-Err-Closed-clause-phases
returns-in_err-found_closed-in-Err-Closed-clause-phases g c tells = inr (still_read g (goal.at.returns-in_err-found_closed-in-Err-Closed-clause-phases g c).After-found_closed tells)

pub returns-in_ok-found_closed-in-Err-Closed-clause-phases : goal.returns-in_ok-found_closed-in-Err-Closed-clause-phases
returns-in_ok-found_closed-in-Err-Closed-clause-phases g c tells = inr (still_read g (goal.at.returns-in_ok-found_closed-in-Err-Closed-clause-phases g c).After-found_closed tells)
