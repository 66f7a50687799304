use Rattle.std.proofs.Common.{◌+◌, length, arith}
use Rattle.host_model.specs.declared.side.Side.TheVariants.{Left, Right}
use Rattle.host_model.specs.Hosts.{MeetsAll}
use Rattle.pair_store.specs.Moments.{IsMaking, StaysBelow}
use Rattle.pair_store.proofs.Below.{first_met, range_met, then_below}
use Rattle.pair_store.proofs.Making.{right_met, left_met, journal_met, journal_bytes}
use Rattle.pair_store.proofs.store.PairStore.make.Given.{Over}
use Rattle.pair_store.proofs.store.PairStore.make.Goals.{After-close-2, After-make}
use Rattle.pair_store.proofs.store.PairStore.make.Goals as goal

-- ---- the right side is closed

pub returns-in_err-close-clause-below : goal.returns-in_err-close-clause-below
returns-in_err-close-clause-below g c tells = first_met g.H.Host c.args.host.now c.close.new.host Right (c.close.ensures.any_moment tells)

pub returns-in_err-close-clause-any_moment : goal.returns-in_err-close-clause-any_moment
returns-in_err-close-clause-any_moment g c tells = right_met g.H.Host c.args.host.now c.args.first.now c.close.new.host (c.close.ensures.any_moment tells)

-- ---- then the left one

module _ (g : Over) (c : After-close-2 g) (tells : g.H.Host.tells) where
  closed_below : MeetsAll g.H.Host c.args.host.now c.close-2.new.host (StaysBelow g.H.Host c.args.host.now)
  closed_below =
      let h = g.H.Host in
      let old = c.args.host.now in
      let one = c.close.new.host in
      then_below h old one c.close-2.new.host (λ l r u le now. g.met.H.Host.counts_now one (h.moment old) l r u tells le now) (λ s. g.met.H.Host.read_is_image one s tells)
      (first_met h old one Right (c.close.ensures.any_moment tells)) (first_met h one c.close-2.new.host Left (c.close-2.ensures.any_moment tells))

  closing : MeetsAll g.H.Host c.args.host.now c.close-2.new.host (IsMaking g.H.Host c.args.host.now c.args.first.now)
  closing =
      left_met g.H.Host c.args.host.now c.args.first.now c.close.new.host (c.close.ensures.rest tells) (c.in_ok-close.ensures.closed tells) (c.in_ok-close.ensures.durable tells) c.close-2.new.host
      (right_met g.H.Host c.args.host.now c.args.first.now c.close.new.host (c.close.ensures.any_moment tells)) (c.close-2.ensures.any_moment tells)

pub returns-in_err-close-2-clause-below : goal.returns-in_err-close-2-clause-below
returns-in_err-close-2-clause-below g c = closed_below g (goal.at.returns-in_err-close-2-clause-below g c).After-close-2

pub returns-in_err-close-2-clause-any_moment : goal.returns-in_err-close-2-clause-any_moment
returns-in_err-close-2-clause-any_moment g c = closing g (goal.at.returns-in_err-close-2-clause-any_moment g c).After-close-2

-- ---- and then its journal is made

module _ (g : Over) (c : After-make g) (tells : g.H.Host.tells) where
  made_below : MeetsAll g.H.Host c.args.host.now c.close-2.new.host (StaysBelow g.H.Host c.args.host.now) → MeetsAll g.H.Host c.args.host.now c.make.new.host (StaysBelow g.H.Host c.args.host.now)
  made_below closed =
      let h = g.H.Host in
      let old = c.args.host.now in
      let two = c.close-2.new.host in
      then_below h old two c.make.new.host (λ l r u le now. g.met.H.Host.counts_now two (h.moment old) l r u tells le now) (λ s. g.met.H.Host.read_is_image two s tells)
      closed (range_met h two c.make.new.host Left 0 (length c.args.first.now + 15) (omega arith) (c.make.ensures.range tells))

  making : MeetsAll g.H.Host c.args.host.now c.close-2.new.host (IsMaking g.H.Host c.args.host.now c.args.first.now) → MeetsAll g.H.Host c.args.host.now c.make.new.host (IsMaking g.H.Host c.args.host.now c.args.first.now)
  making closed =
      journal_met g.H.Host c.args.host.now c.args.first.now c.close.new.host (c.close.ensures.rest tells) (c.in_ok-close.ensures.closed tells) (c.in_ok-close.ensures.durable tells)
      c.close-2.new.host (c.close-2.ensures.rest tells) (c.in_ok-close-2.ensures.closed tells) (c.in_ok-close-2.ensures.durable tells) c.make.new.host closed (c.make.ensures.any_moment tells) (c.make.ensures.range tells)

pub returns-in_err-journal-clause-below : goal.returns-in_err-journal-clause-below
returns-in_err-journal-clause-below g c tells = let at = goal.at.returns-in_err-journal-clause-below g c in made_below g at.After-make tells (closed_below g at.After-close-2 tells)

pub returns-clause-below : goal.returns-clause-below
returns-clause-below g c tells = let at = goal.at.returns-clause-below g c in made_below g at.After-make tells (closed_below g at.After-close-2 tells)

pub returns-in_err-journal-clause-any_moment : goal.returns-in_err-journal-clause-any_moment
returns-in_err-journal-clause-any_moment g c tells = let at = goal.at.returns-in_err-journal-clause-any_moment g c in making g at.After-make tells (closing g at.After-close-2 tells)

pub returns-clause-any_moment : goal.returns-clause-any_moment
returns-clause-any_moment g c tells = let at = goal.at.returns-clause-any_moment g c in making g at.After-make tells (closing g at.After-close-2 tells)

pub returns-clause-left : goal.returns-clause-left
returns-clause-left g c tells =
    journal_bytes g.H.Host c.args.host.now c.args.first.now c.close.new.host (c.close.ensures.rest tells) (c.in_ok-close.ensures.closed tells) (c.in_ok-close.ensures.durable tells)
    c.close-2.new.host (c.close-2.ensures.rest tells) (c.in_ok-close-2.ensures.closed tells) (c.in_ok-close-2.ensures.durable tells) c.make.new.host (c.in_ok-journal.ensures.bytes tells)
