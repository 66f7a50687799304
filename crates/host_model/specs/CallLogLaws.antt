-- The laws of a host in memory.
use Rattle.std.specs.Prelude.{◌≡◌, ℕ, zero, suc, ◌+◌, ◌-◌, ◌≤◌, min, max, List, [], ◌∷◌, ◌++◌, length, take, drop, replicate}
use Rattle.std.proofs.Common.{inr, refl, ◌∙◌, ap, arith, append_assoc, length-append, length-drop}
use Rattle.std.proofs.lemmas.List.{take_min, drop_at, take-append-le, length-replicate, length-take-le, take-take}
use Rattle.host_model.specs.declared.side.Side.{Side}
use Rattle.host_model.specs.declared.side.Side.TheVariants.{Left, Right}
use Rattle.host_model.specs.Images.{overwritten, Torn}
use Rattle.host_model.specs.Moments.{IsNow}
use Rattle.host_model.specs.CallLog.{PastCall, Wrote, Synced, Said, CallLog, SideState, HostState, side_of, wrote, all_synced, after, state_after, start, state_of, IsImage, images_of, MightSince}

-- the bytes after a write
module _ (old : List ℕ) (at : ℕ) (bytes : List ℕ) where
  pub padded : length (take at (old ++ replicate (at - length old) 0)) ≡ at
  padded = length-take-le at (old ++ replicate (at - length old) 0) (omega (arith, length-append old (replicate (at - length old) 0), length-replicate {A = ℕ} (at - length old) 0))

  pub length-overwritten : length (overwritten old at bytes) ≡ max (length old) (at + length bytes)
  length-overwritten =
      let front = take at (old ++ replicate (at - length old) 0) in
      omega (arith, padded, length-append (front ++ bytes) (drop (at + length bytes) old), length-append front bytes, length-drop (at + length bytes) old)

  -- a write that is complete is one that is torn nowhere
  pub torn_overwritten : Torn at (length bytes) old (overwritten old at bytes)
  torn_overwritten =
      let front = take at (old ++ replicate (at - length old) 0) in
      let behind = drop (at + length bytes) old in
      let size : length (front ++ bytes) ≡ at + length bytes = omega (arith, padded, length-append front bytes) in
      record {
        before = ap (λ (l : List ℕ). take (min at (length old)) l) (append_assoc front bytes behind)
            ∙ take-append-le (min at (length old)) front (bytes ++ behind) (omega (arith, padded))
            ∙ take-take (min at (length old)) at (old ++ replicate (at - length old) 0) (omega arith)
            ∙ take-append-le (min at (length old)) old (replicate (at - length old) 0) (omega arith)
            ∙ take_min at old;
        after = drop_at (front ++ bytes) behind (at + length bytes) size;
        no_shorter = omega (arith, length-overwritten);
        no_longer = omega (arith, length-overwritten);
      }

-- what holds of a side that is synced, and is kept by a write, holds of each side
module _ (P : SideState → Type 0) (rest : (bytes : List ℕ) → P (all_synced bytes)) (write : (state : SideState) (at : ℕ) (bytes : List ℕ) → P state → P (wrote state at bytes)) where
  abbrev Both : HostState → Type 0
  Both host = (side : Side) → P (side_of host side)

  both_after : (host : HostState) (call : PastCall) → Both host → Both (after host call)
  both_after host (Wrote Left at bytes) both Left = write host.left at bytes (both Left)
  both_after host (Wrote Left at bytes) both Right = both Right
  both_after host (Wrote Right at bytes) both Left = both Left
  both_after host (Wrote Right at bytes) both Right = write host.right at bytes (both Right)
  both_after host (Synced Left) both Left = rest host.left.read
  both_after host (Synced Left) both Right = both Right
  both_after host (Synced Right) both Left = both Left
  both_after host (Synced Right) both Right = rest host.right.read
  both_after host (Said bytes) both Left = both Left
  both_after host (Said bytes) both Right = both Right

  both_after_all : (host : HostState) (past : List PastCall) → Both host → Both (state_after host past)
  both_after_all host [] both side = both side
  both_after_all host (call ∷ past) both side = both_after_all (after host call) past (both_after host call both) side

  both_start : (log : CallLog) → Both (start log)
  both_start log Left = rest log.left
  both_start log Right = rest log.right

  pub each_side : (log : CallLog) (side : Side) → P (side_of (state_of log) side)
  each_side log side = both_after_all (start log) log.past (both_start log) side

abbrev ReadIsImage : SideState → Type 0
ReadIsImage state = IsImage state.synced state.pending state.read

pub read_is_image_of : (log : CallLog) (side : Side) → images_of (state_of log) side (side_of (state_of log) side).read
read_is_image_of log side = each_side ReadIsImage (λ bytes. refl) (λ state at bytes image. (state.read, image, torn_overwritten state.read at bytes)) log side

-- this moment is one of those since an earlier one
pub since_now : (host : HostState) (past : List PastCall) (t : ℕ) (l r u : List ℕ) → t ≤ length past → IsNow (images_of (state_after host past)) (state_after host past).text l r u → MightSince host past t l r u
since_now host [] t l r u le now = now
since_now host (call ∷ past) zero l r u le now = inr (since_now (after host call) past zero l r u (omega arith) now)
since_now host (call ∷ past) (suc t) l r u le now = since_now (after host call) past t l r u (omega arith) now

-- what might be met since a later moment might be met since an earlier one
pub since_earlier : (host : HostState) (past : List PastCall) (earlier later : ℕ) (l r u : List ℕ) → earlier ≤ later → MightSince host past later l r u → MightSince host past earlier l r u
since_earlier host [] earlier later l r u le met = met
since_earlier host (call ∷ past) zero zero l r u le met = met
since_earlier host (call ∷ past) zero (suc later) l r u le met = inr (since_earlier (after host call) past zero later l r u (omega arith) met)
since_earlier host (call ∷ past) (suc earlier) zero l r u le met = absurd (omega arith)
since_earlier host (call ∷ past) (suc earlier) (suc later) l r u le met = since_earlier (after host call) past earlier later l r u (omega arith) met

-- since this moment there is no other
pub since_last : (host : HostState) (past : List PastCall) (l r u : List ℕ) → MightSince host past (length past) l r u → IsNow (images_of (state_after host past)) (state_after host past).text l r u
since_last host [] l r u met = met
since_last host (call ∷ past) l r u met = since_last (after host call) past l r u met
