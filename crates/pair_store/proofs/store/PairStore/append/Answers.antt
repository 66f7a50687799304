use Rattle.std.proofs.Common.{◌+◌, length, ap, arith}
use Rattle.gate_journal.specs.OpenSide.{OpenSide}
use Rattle.pair_store.proofs.Adding.{append_met}
use Rattle.pair_store.proofs.Below.{range_met}
use Rattle.pair_store.proofs.store.PairStore.append.Goals as goal

pub returns-clause-any_moment : goal.returns-clause-any_moment
returns-clause-any_moment g c tells payloads gated =
    append_met g.H.Host _ _ c.self.view_is c.args.host.now c.append.new.host payloads c.args.next.now gated (c.append.ensures.any_moment tells)

pub returns-clause-below : goal.returns-clause-below
returns-clause-below g c tells =
    range_met g.H.Host c.args.host.now c.append.new.host c.self.inside.journal.side c.self.inside.journal.place (length c.args.next.now + 6)
    (omega (arith, c.requires.room, ap (λ (j : OpenSide). j.place) c.self.view_is)) (c.append.ensures.range tells)
