-- The two phases of the opening of a side.
use Rattle.std.proofs.Common.{List, ℕ, ◌∙◌}
use Rattle.host_model.specs.declared.host.Host.{Ghosts}
use Rattle.host_model.specs.declared.side.Side.{Side}
use Rattle.host_model.specs.Hosts.{KeepsAll, MeetsAll, NowOf}
use Rattle.host_model.specs.Moments.{Elapses}
use Rattle.host_model.specs.Sides.{other, on}
use Rattle.host_model.proofs.Meeting.{both, this_side, that_side, started, goes_on}

module _ {H : Type 0} (h : Ghosts H) (side : Side) (start mid : H) where
  -- what is met while a side is synced is what was there before
  pub sync_met : ((l r u : List ℕ) → h.might start (h.moment start) l r u → NowOf h start l r u) → ((c : List ℕ) → h.images mid side c → h.images start side c) → KeepsAll h (other side) start mid
      → Elapses (h.moment start) (h.moment mid) (h.might start) (h.might mid) (NowOf h mid) → MeetsAll h start mid (NowOf h start)
  sync_met only crash rest time = goes_on h.moment h.might start start mid (NowOf h start) (NowOf h mid) (started h.moment h.might start (NowOf h start) only) time
      (λ l r u now. both (h.images start) (h.said start) side l r u (crash (on side l r) (this_side (h.images mid) (h.said mid) side l r u now))
      ((rest.images_same (on (other side) l r)).0 (that_side (h.images mid) (h.said mid) side l r u now)) (now.2 ∙ rest.text))
