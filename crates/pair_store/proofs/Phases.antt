-- The two phases of an opening: what was synced is read, and then the earlier of two open sides is closed.
use Rattle.std.proofs.Common.{inl, inr, ℕ, List, sym, subst}
use Rattle.host_model.specs.declared.host.Host.{Ghosts}
use Rattle.host_model.specs.declared.side.Side.{Side}
use Rattle.host_model.specs.declared.side.Side.TheVariants.{Left, Right}
use Rattle.host_model.specs.Hosts.{MeetsAll}
use Rattle.host_model.proofs.Meeting.{then_met}
use Rattle.pair_store.specs.Moments.{IsOpening, IsReadOrRepaired, OpensInTwoPhases}
use Rattle.pair_store.specs.Repair.{IsLeftByOpening, IsUnwritten}

module _ {H : Type 0} (h : Ghosts H) (start new : H) where
  -- what reads gave is an image of the start
  read_opening : ((s : Side) → h.images start s (h.reads start s)) → (l r u : List ℕ) → IsReadOrRepaired h start l r u → IsOpening h start l r u
  read_opening image l r u met = elim met.0 [
    | inl read ↦ inl (subst (h.images start Left) (sym (read Left)) (image Left), subst (h.images start Right) (sym (read Right)) (image Right), met.1)
    | inr repaired ↦ inr (repaired, met.1)
  ]

  pub phases_opening : ((s : Side) → h.images start s (h.reads start s)) → OpensInTwoPhases h start new → MeetsAll h start new (IsOpening h start)
  phases_opening image two = then_met h.moment h.might start two.synced new _ _ _ two.first two.second (λ l r u now. inl now) (read_opening image)

  pub unwritten_left : IsUnwritten h start new → IsLeftByOpening h start new
  unwritten_left is = record { durable = is.durable; bytes = inl is.same }
