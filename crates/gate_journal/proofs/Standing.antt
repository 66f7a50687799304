-- What follows where a journal stands for payloads.
use Rattle.std.proofs.Common.{ℕ, List, sym, subst, arith}
use Rattle.host_model.specs.declared.host.Host.{Ghosts}
use Rattle.gate_journal.specs.Journal.{Stands, StandsWithGate}
use Rattle.gate_journal.specs.OpenSide.{OpenSide}
use Rattle.gate_journal.specs.Records.{IsOpen, IsKept}

module _ {H : Type 0} (h : Ghosts H) (journal : OpenSide) (host : H) (payloads : List (List ℕ)) where
  -- each image is open with these payloads
  pub all_open : Stands h journal host payloads → (image : List ℕ) → h.images host journal.side image → IsOpen journal.generation payloads image
  all_open stands image left = subst (IsOpen journal.generation payloads) (sym (stands.only image left)) stands.side

  -- what reads give has a byte at its place
  pub kept_of_stands : StandsWithGate h journal host payloads → IsKept journal.generation payloads (h.reads host journal.side)
  kept_of_stands gated = record { side = gated.stands.side; gate = omega (arith, gated.gate, gated.stands.place) }

  -- and so has each image
  pub all_kept : StandsWithGate h journal host payloads → (image : List ℕ) → h.images host journal.side image → IsKept journal.generation payloads image
  all_kept gated image left = subst (IsKept journal.generation payloads) (sym (gated.stands.only image left)) (kept_of_stands gated)
