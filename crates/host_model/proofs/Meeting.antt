-- How a run of host calls goes on.
use Rattle.std.proofs.Common.{◌≡◌, inl, inr, ⊎_elim, ℕ, List, ◌∙◌, arith}
use Rattle.host_model.specs.declared.side.Side.{Side}
use Rattle.host_model.specs.declared.side.Side.TheVariants.{Left, Right}
use Rattle.host_model.specs.Sides.{other, on}
use Rattle.host_model.specs.Moments.{IsNow, Elapses, KeepsOther, IsStill, Meets, OnSide}

-- what a side and the other one have, both have
pub both : (images : Side → List ℕ → Type 0) (said : List ℕ) (side : Side) (l r u : List ℕ) → images side (on side l r) → images (other side) (on (other side) l r) → u ≡ said → IsNow images said l r u
both images said Left l r u this that text = (this, that, text)
both images said Right l r u this that text = (that, this, text)

pub this_side : (images : Side → List ℕ → Type 0) (said : List ℕ) (side : Side) (l r u : List ℕ) → IsNow images said l r u → images side (on side l r)
this_side images said Left l r u now = now.0
this_side images said Right l r u now = now.1

pub that_side : (images : Side → List ℕ → Type 0) (said : List ℕ) (side : Side) (l r u : List ℕ) → IsNow images said l r u → images (other side) (on (other side) l r)
that_side images said Left l r u now = now.1
that_side images said Right l r u now = now.0

module _ {H : Type 0} (moment : H → ℕ) (might : H → ℕ → List ℕ → List ℕ → List ℕ → Type 0) where
  -- before the first call
  pub started : (old : H) (Q : List ℕ → List ℕ → List ℕ → Type 0) → ((l r u : List ℕ) → might old (moment old) l r u → Q l r u) → Meets moment might old old Q
  started old Q here = record { later = omega arith; each = here; before = λ t l r u le met. inl met }

  -- one call more, during which what is met has Q
  pub goes_on : (old mid new : H) (Q during : List ℕ → List ℕ → List ℕ → Type 0) → Meets moment might old mid Q → Elapses (moment mid) (moment new) (might mid) (might new) during
      → ((l r u : List ℕ) → during l r u → Q l r u) → Meets moment might old new Q
  goes_on old mid new Q during so_far time here = record {
    later = omega (arith, so_far.later, time.later);
    each = λ l r u met. ⊎_elim (so_far.each l r u) (here l r u) (time.nothing_else (moment old) l r u so_far.later met);
    before = λ t l r u le met. ⊎_elim (so_far.before t l r u le) (λ now. inr (here l r u now)) (time.nothing_else t l r u (omega (arith, le, so_far.later)) met);
  }

  -- two runs are one
  pub then_met : (old mid new : H) (P Q R : List ℕ → List ℕ → List ℕ → Type 0) → Meets moment might old mid P → Meets moment might mid new Q
      → ((l r u : List ℕ) → P l r u → R l r u) → ((l r u : List ℕ) → Q l r u → R l r u) → Meets moment might old new R
  then_met old mid new P Q R first second p q = record {
    later = omega (arith, first.later, second.later);
    each = λ l r u met. ⊎_elim (λ was. p l r u (first.each l r u was)) (q l r u) (second.before (moment old) l r u first.later met);
    before = λ t l r u le met. ⊎_elim (λ was. ⊎_elim (λ past. inl past) (λ now. inr (p l r u now)) (first.before t l r u le was)) (λ now. inr (q l r u now)) (second.before t l r u (omega (arith, le, first.later)) met);
  }

  -- a run whose moments say more
  pub met_weaker : (old new : H) (P Q : List ℕ → List ℕ → List ℕ → Type 0) → Meets moment might old new P → ((l r u : List ℕ) → P l r u → Q l r u) → Meets moment might old new Q
  met_weaker old new P Q run p = record {
    later = run.later;
    each = λ l r u met. p l r u (run.each l r u met);
    before = λ t l r u le met. ⊎_elim (λ past. inl past) (λ now. inr (p l r u now)) (run.before t l r u le met);
  }

module _ {H : Type 0} (reads : H → Side → List ℕ) (images : H → Side → List ℕ → Type 0) (said : H → List ℕ) where
  -- two calls that keep a side
  pub kept_twice : (side : Side) (old mid new : H) → KeepsOther reads images said side old mid → KeepsOther reads images said side mid new → KeepsOther reads images said side old new
  kept_twice side old mid new first second = record {
    reads_same = second.reads_same ∙ first.reads_same;
    images_same = λ c. (λ left. (first.images_same c).0 ((second.images_same c).0 left), λ left. (second.images_same c).1 ((first.images_same c).1 left));
    text = second.text ∙ first.text;
  }

  -- a call that changes nothing keeps each side
  pub kept_still : (written : H → ℕ) (side : Side) (old new : H) → IsStill reads images said written old new → KeepsOther reads images said side old new
  kept_still written side old new still = record { reads_same = still.reads_same side; images_same = still.images_same side; text = still.text }

  -- what is met during a call on one side, where the other one is as at the start of the run
  pub met_on_side : (side : Side) (start new : H) (P : List ℕ → Type 0) → ((c : List ℕ) → images new side c → P c) → KeepsOther reads images said (other side) start new
      → (l r u : List ℕ) → IsNow (images new) (said new) l r u → OnSide images said start side P l r u
  met_on_side side start new P this rest l r u now = (this (on side l r) (this_side (images new) (said new) side l r u now), (rest.images_same (on (other side) l r)).0 (that_side (images new) (said new) side l r u now), now.2 ∙ rest.text)

  -- and before the first call
  pub met_at_start : (side : Side) (start : H) (P : List ℕ → Type 0) → ((c : List ℕ) → images start side c → P c)
      → (l r u : List ℕ) → IsNow (images start) (said start) l r u → OnSide images said start side P l r u
  met_at_start side start P this l r u now = (this (on side l r) (this_side (images start) (said start) side l r u now), that_side (images start) (said start) side l r u now, now.2)

-- a stronger fact about the image
pub on_side_weaker : {H : Type 0} (images : H → Side → List ℕ → Type 0) (said : H → List ℕ) (start : H) (side : Side) (P Q : List ℕ → Type 0) → ((c : List ℕ) → P c → Q c)
    → (l r u : List ℕ) → OnSide images said start side P l r u → OnSide images said start side Q l r u
on_side_weaker images said start side P Q p l r u met = (p (on side l r) met.0, met.1, met.2)

-- a run that began later on the same other side and with the same text
pub on_side_from : {H : Type 0} (reads : H → Side → List ℕ) (images : H → Side → List ℕ → Type 0) (said : H → List ℕ) (start mid : H) (side : Side) (P Q : List ℕ → Type 0)
    → KeepsOther reads images said (other side) start mid → ((c : List ℕ) → P c → Q c)
    → (l r u : List ℕ) → OnSide images said mid side P l r u → OnSide images said start side Q l r u
on_side_from reads images said start mid side P Q rest p l r u met = (p (on side l r) met.0, (rest.images_same (on (other side) l r)).0 met.1, met.2 ∙ rest.text)

-- a call on the other side, seen from this one
pub turned : {H : Type 0} (images : H → Side → List ℕ → Type 0) (said : H → List ℕ) (start : H) (side : Side) (P : List ℕ → Type 0) (l r u : List ℕ)
    → OnSide images said start (other side) P l r u → images start side (on side l r) × P (on (other side) l r) × (u ≡ said start)
turned images said start Left P l r u met = (met.1, met.0, met.2)
turned images said start Right P l r u met = (met.1, met.0, met.2)

pub kept_turned : {H : Type 0} (reads : H → Side → List ℕ) (images : H → Side → List ℕ → Type 0) (said : H → List ℕ) (side : Side) (old new : H) → KeepsOther reads images said (other (other side)) old new → KeepsOther reads images said side old new
kept_turned reads images said Left old new kept = kept
kept_turned reads images said Right old new kept = kept
