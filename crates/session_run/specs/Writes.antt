-- Which bytes of a store a call writes.
use Rattle.std.specs.Prelude.{◌≡◌, ◌≤◌, ◌+◌, ℕ, List}
use Rattle.host_model.specs.declared.side.Side.{Side}
use Rattle.host_model.specs.declared.side.Side.TheVariants.{Left, Right}
use Rattle.host_model.specs.declared.host.Host.{Ghosts}
use Rattle.host_model.specs.Hosts.{MeetsAll}
use Rattle.host_model.specs.Sides.{on}
use Rattle.pair_store.specs.declared.mark.TheConstants.{MAX_RECORD_END}
use Rattle.pair_store.specs.Moments.{IsOpening, SameBehind}
use Rattle.pair_store.specs.Repair.{repair_cost}

-- no byte at or past byte 33,554,432 of a side is written
abbrev pub IsBelowMark : {H : Type 0} → Ghosts H → H → List ℕ → List ℕ → List ℕ → Type 0
IsBelowMark h old l r u = (side : Side) → SameBehind MAX_RECORD_END (h.images old side) (on side l r)

-- nothing is said, and no byte is written but the one that an opening writes where both sides are open: at each moment the images are those
-- of the start, or what that leaves of what reads gave
pub record WritesNoMore {H : Type 0} (h : Ghosts H) (old new : H) : Type 0 where
  pub moments : MeetsAll h old new (IsOpening h old)
  pub text : h.said new ≡ h.said old
  pub most : h.written new ≤ h.written old + repair_cost (h.reads old Left) (h.reads old Right)
