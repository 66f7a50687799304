use Rattle.std.proofs.Common.{◌≡◌, ◌+◌, [], ◌∷◌, ℕ, List, length, ◌∙◌, ap, arith}
use Rattle.host_model.specs.Hosts.{MeetsAll}
use Rattle.host_model.specs.Sides.{other}
use Rattle.gate_journal.specs.OpenSide.{OpenSide}
use Rattle.pair_store.specs.Moments.{HasEither, KeepsEither, StaysBelow}
use Rattle.pair_store.specs.Pair.{generation_after}
use Rattle.pair_store.specs.Store.{PairStands, PairStandsWithGate}
use Rattle.pair_store.proofs.Below.{first_met, range_met, then_below}
use Rattle.pair_store.proofs.Turning.{turn_bytes, turn_has, turn_keeps}
use Rattle.pair_store.proofs.store.PairStore.checkpoint.Given.{Over}
use Rattle.pair_store.proofs.store.PairStore.checkpoint.Goals.{After-close}
use Rattle.pair_store.proofs.store.PairStore.checkpoint.Goals as goal

pub returns-in_err-journal-clause-below : goal.returns-in_err-journal-clause-below
returns-in_err-journal-clause-below g c tells =
    range_met g.H.Host c.args.host.now c.make.new.host c.other-side.result 0 (length c.args.whole.now + 15) (omega arith) (c.make.ensures.range tells)

-- ---- the journal is made, and this side closed

module _ (g : Over) (c : After-close g) where
  abbrev side : OpenSide
  side = c.args.self.now

  here : c.self.inside.side ≡ side.side
  here = c.self.invariant ∙ ap (λ (j : OpenSide). j.side) c.self.view_is

  there : c.other-side.result ≡ other side.side
  there = c.other-side.ensures ∙ ap other here

  next : c.generation_after-generation.result ≡ generation_after side.generation
  next = c.generation_after-generation.ensures.next ∙ ap generation_after (c.generation.ensures.generation ∙ ap (λ (j : OpenSide). j.generation) c.self.view_is)

  below : g.H.Host.tells → MeetsAll g.H.Host c.args.host.now c.close.new.host (StaysBelow g.H.Host c.args.host.now)
  below tells =
      let h = g.H.Host in
      let old = c.args.host.now in
      let mid = c.make.new.host in
      then_below h old mid c.close.new.host (λ l r u le now. g.met.H.Host.counts_now mid (h.moment old) l r u tells le now) (λ s. g.met.H.Host.read_is_image mid s tells)
      (range_met h old mid c.other-side.result 0 (length c.args.whole.now + 15) (omega arith) (c.make.ensures.range tells)) (first_met h mid c.close.new.host c.self.inside.side (c.close.ensures.any_moment tells))

  has : g.H.Host.tells → (payloads : List (List ℕ)) → PairStands g.H.Host side c.args.host.now payloads → MeetsAll g.H.Host c.args.host.now c.close.new.host (HasEither g.H.Host c.args.host.now payloads (c.args.whole.now ∷ []))
  has tells =
      turn_has g.H.Host side c.in_ok-journal.journal c.self.inside.side c.other-side.result c.generation_after-generation.result c.args.whole.now c.args.host.now c.make.new.host c.close.new.host
      here there next c.in_ok-journal.ensures.side c.in_ok-journal.ensures.generation
      (c.make.ensures.any_moment tells) (c.make.ensures.rest tells) (c.in_ok-journal.ensures.made tells) (c.close.ensures.any_moment tells)

  keeps : g.H.Host.tells → (payloads : List (List ℕ)) → PairStandsWithGate g.H.Host side c.args.host.now payloads → MeetsAll g.H.Host c.args.host.now c.close.new.host (KeepsEither g.H.Host c.args.host.now payloads (c.args.whole.now ∷ []))
  keeps tells =
      turn_keeps g.H.Host side c.in_ok-journal.journal c.self.inside.side c.other-side.result c.generation_after-generation.result c.args.whole.now c.args.host.now c.make.new.host c.close.new.host
      here there next c.in_ok-journal.ensures.side c.in_ok-journal.ensures.generation
      (c.make.ensures.any_moment tells) (c.make.ensures.rest tells) (c.in_ok-journal.ensures.made tells) (c.close.ensures.any_moment tells)

pub returns-in_err-close-clause-below : goal.returns-in_err-close-clause-below
returns-in_err-close-clause-below g c = below g (goal.at.returns-in_err-close-clause-below g c).After-close

pub returns-clause-below : goal.returns-clause-below
returns-clause-below g c = below g (goal.at.returns-clause-below g c).After-close

pub returns-in_err-close-clause-any_moment : goal.returns-in_err-close-clause-any_moment
returns-in_err-close-clause-any_moment g c = has g (goal.at.returns-in_err-close-clause-any_moment g c).After-close

pub returns-clause-any_moment : goal.returns-clause-any_moment
returns-clause-any_moment g c = has g (goal.at.returns-clause-any_moment g c).After-close

pub returns-in_err-close-clause-any_moment_kept : goal.returns-in_err-close-clause-any_moment_kept
returns-in_err-close-clause-any_moment_kept g c = keeps g (goal.at.returns-in_err-close-clause-any_moment_kept g c).After-close

pub returns-clause-any_moment_kept : goal.returns-clause-any_moment_kept
returns-clause-any_moment_kept g c = keeps g (goal.at.returns-clause-any_moment_kept g c).After-close

pub returns-clause-bytes : goal.returns-clause-bytes
returns-clause-bytes g c tells =
    let closed = (goal.at.returns-clause-bytes g c).After-close in
    turn_bytes g.H.Host c.args.self.now c.self.inside.side c.other-side.result c.generation_after-generation.result c.args.whole.now c.args.host.now c.make.new.host c.close.new.host
    (here g closed) (there g closed) (next g closed) (c.make.ensures.rest tells) (c.in_ok-journal.ensures.bytes tells) (c.in_ok-close.ensures.closed tells) (c.close.ensures.rest tells)
