-- What is met at the end of a call, behind another one, and where nothing is said or done.
use Rattle.std.proofs.Common.{◌≡◌, ◌≤◌, ℕ, List, refl}
use Rattle.host_model.specs.declared.host.Host.{Ghosts}
use Rattle.host_model.specs.declared.side.Side.{Side}
use Rattle.host_model.specs.declared.side.Side.TheVariants.{Left, Right}
use Rattle.host_model.specs.Hosts.{NowOf, MeetsAll}
use Rattle.host_model.proofs.Meeting.{started, met_weaker}
use Rattle.pair_store.specs.Moments.{StaysBelow}
use Rattle.pair_store.proofs.Below as pairs
use Rattle.client_store.specs.Moments.{IsQuiet}

-- each pair of images of a call's end is met then
pub met_now : {H : Type 0} (h : Ghosts H) (start new : H) (P : List ℕ → List ℕ → List ℕ → Type 0) → MeetsAll h start new P → ((t : ℕ) (l r u : List ℕ) → h.tells → t ≤ h.moment new → NowOf h new l r u → h.might new t l r u) → h.tells
    → (l r : List ℕ) → h.images new Left l → h.images new Right r → P l r (h.said new)
met_now h start new P run counts tells l r left right = run.each l r (h.said new) (counts (h.moment start) l r (h.said new) tells run.later (left, right, refl))

-- ---- no byte at or past the mark is written

module _ {H : Type 0} (h : Ghosts H) (start mid : H) (tells : h.tells) (counts : (t : ℕ) (l r u : List ℕ) → h.tells → t ≤ h.moment mid → NowOf h mid l r u → h.might mid t l r u)
    (image : (side : Side) → h.tells → h.images mid side (h.reads mid side)) (first : MeetsAll h start mid (StaysBelow h start)) where
  -- nothing is said
  pub text_below : h.said mid ≡ h.said start
  text_below = (met_now h start mid (StaysBelow h start) first counts tells (h.reads mid Left) (h.reads mid Right) (image Left tells) (image Right tells)).1

  -- nor by the next call
  pub then_below : (new : H) → MeetsAll h mid new (StaysBelow h mid) → MeetsAll h start new (StaysBelow h start)
  then_below new second = pairs.then_below h start mid new (λ l r u le now. counts (h.moment start) l r u tells le now) (λ side. image side tells) first second

-- then nothing is said at any moment
pub below_quiet : {H : Type 0} (h : Ghosts H) (start new : H) → MeetsAll h start new (StaysBelow h start) → MeetsAll h start new (IsQuiet (h.said start))
below_quiet h start new run = met_weaker h.moment h.might start new _ _ run (λ l r u met. met.1)

-- ---- nothing is done

module _ {H : Type 0} (h : Ghosts H) (host : H) (tells : h.tells) (only : (l r u : List ℕ) → h.tells → h.might host (h.moment host) l r u → NowOf h host l r u) where
  pub still_now : MeetsAll h host host (NowOf h host)
  still_now = started h.moment h.might host (NowOf h host) (λ l r u met. only l r u tells met)

  pub still_below : MeetsAll h host host (StaysBelow h host)
  still_below = pairs.now_met h host host still_now
