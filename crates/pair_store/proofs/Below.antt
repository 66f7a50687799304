-- Writes that end at the mark at most.
use Rattle.std.proofs.Common.{◌≡◌, inl, inr, ℕ, ◌+◌, ◌-◌, ◌≤◌, Bool, true, false, List, ◌∷◌, drop, refl, sym, ◌∙◌, ap, arith}
use Rattle.std.proofs.lemmas.List.{drop-drop}
use Rattle.host_model.specs.declared.host.Host.{Ghosts}
use Rattle.host_model.specs.declared.side.Side.{Side}
use Rattle.host_model.specs.declared.side.Side.TheVariants.{Left, Right}
use Rattle.host_model.specs.Hosts.{MeetsAll, NowOf, OnSideOf}
use Rattle.host_model.specs.Images.{Torn, IsAfter}
use Rattle.host_model.specs.Sides.{other, on}
use Rattle.host_model.proofs.Meeting.{then_met, met_weaker}
use Rattle.gate_journal.specs.Journal.{SameButFirst}
use Rattle.pair_store.specs.declared.mark.TheConstants.{MAX_RECORD_END}
use Rattle.pair_store.specs.Moments.{SameBehind, StaysBelow}
use Rattle.pair_store.specs.Repair.{MayBeShut}
use Rattle.pair_store.proofs.Beside.{both_sides}

-- what is behind a place is behind a later one too
drop_later : (place mark : ℕ) (old new : List ℕ) → place ≤ mark → drop place new ≡ drop place old → drop mark new ≡ drop mark old
drop_later place mark old new within same =
    let more = mark - place in
    let sum : place + more ≡ mark = omega arith in
    ap (λ (i : ℕ). drop i new) (sym sum) ∙ sym (drop-drop more place new) ∙ ap (λ (l : List ℕ). drop more l) same ∙ drop-drop more place old ∙ ap (λ (i : ℕ). drop i old) sum

module _ {H : Type 0} (h : Ghosts H) (start : H) where
  -- what is on the disk now
  pub now_below : (l r u : List ℕ) → NowOf h start l r u → StaysBelow h start l r u
  now_below l r u now = (both_sides (λ s. SameBehind MAX_RECORD_END (h.images start s) (on s l r)) Left (l, now.0, refl) (r, now.1, refl), now.2)

  -- a write on one side that ends at the mark at most
  pub range_below : (side : Side) (at n : ℕ) → at + n ≤ MAX_RECORD_END → (l r u : List ℕ) → OnSideOf h start side (IsAfter (Torn at n) (h.images start side)) l r u → StaysBelow h start l r u
  range_below side at n within l r u met = (
    both_sides (λ s. SameBehind MAX_RECORD_END (h.images start s) (on s l r)) side
        (met.0.0, met.0.1, drop_later (at + n) MAX_RECORD_END met.0.0 (on side l r) within met.0.2.after) (on (other side) l r, met.1, refl),
    met.2,
  )

  -- a write of the first byte
  pub first_below : (side : Side) (l r u : List ℕ) → OnSideOf h start side (SameButFirst (h.images start side)) l r u → StaysBelow h start l r u
  first_below side l r u met =
      let old = met.0.0 in
      let same : drop MAX_RECORD_END (on side l r) ≡ drop MAX_RECORD_END old = elim met.0.2 [
        | inl is ↦ ap (λ (c : List ℕ). drop MAX_RECORD_END c) is
        | inr first ↦ ap (λ (c : List ℕ). drop MAX_RECORD_END c) first.1 ∙ drop_later 1 MAX_RECORD_END old (first.0 ∷ drop 1 old) (omega arith) refl
      ] in (
        both_sides (λ s. SameBehind MAX_RECORD_END (h.images start s) (on s l r)) side (old, met.0.1, same) (on (other side) l r, met.1, refl),
        met.2,
      )

  pub shut_below : (is_open : Bool) (side : Side) (l r u : List ℕ) → OnSideOf h start side (MayBeShut is_open (h.images start side)) l r u → StaysBelow h start l r u
  shut_below true side l r u met = first_below side l r u met
  shut_below false side l r u met = (
    both_sides (λ s. SameBehind MAX_RECORD_END (h.images start s) (on s l r)) side (on side l r, met.0, refl) (on (other side) l r, met.1, refl),
    met.2,
  )

  -- and each of them as a run
  pub range_met : (new : H) (side : Side) (at n : ℕ) → at + n ≤ MAX_RECORD_END → MeetsAll h start new (OnSideOf h start side (IsAfter (Torn at n) (h.images start side))) → MeetsAll h start new (StaysBelow h start)
  range_met new side at n within run = met_weaker h.moment h.might start new _ _ run (range_below side at n within)

  pub first_met : (new : H) (side : Side) → MeetsAll h start new (OnSideOf h start side (SameButFirst (h.images start side))) → MeetsAll h start new (StaysBelow h start)
  first_met new side run = met_weaker h.moment h.might start new _ _ run (first_below side)

  pub shut_met : (new : H) (is_open : Bool) (side : Side) → MeetsAll h start new (OnSideOf h start side (MayBeShut is_open (h.images start side))) → MeetsAll h start new (StaysBelow h start)
  shut_met new is_open side run = met_weaker h.moment h.might start new _ _ run (shut_below is_open side)

  pub now_met : (new : H) → MeetsAll h start new (NowOf h start) → MeetsAll h start new (StaysBelow h start)
  now_met new run = met_weaker h.moment h.might start new _ _ run now_below

  -- two runs
  module _ (mid new : H) (now : (l r u : List ℕ) → h.moment start ≤ h.moment mid → NowOf h mid l r u → h.might mid (h.moment start) l r u) (image : (s : Side) → h.images mid s (h.reads mid s))
      (first : MeetsAll h start mid (StaysBelow h start)) where
    at_mid : (l r : List ℕ) → h.images mid Left l → h.images mid Right r → StaysBelow h start l r (h.said mid)
    at_mid l r left right = first.each l r (h.said mid) (now l r (h.said mid) first.later (left, right, refl))

    text_at_mid : h.said mid ≡ h.said start
    text_at_mid = (at_mid (h.reads mid Left) (h.reads mid Right) (image Left) (image Right)).1

    side_at_mid : (s : Side) (c : List ℕ) → h.images mid s c → SameBehind MAX_RECORD_END (h.images start s) c
    side_at_mid Left c left = (at_mid c (h.reads mid Right) left (image Right)).0 Left
    side_at_mid Right c right = (at_mid (h.reads mid Left) c (image Left) right).0 Right

    pub then_below : MeetsAll h mid new (StaysBelow h mid) → MeetsAll h start new (StaysBelow h start)
    then_below second = then_met h.moment h.might start mid new _ _ _ first second (λ l r u met. met)
        (λ l r u met. (
          λ s. let was = side_at_mid s (met.0 s).0 (met.0 s).1 in (was.0, was.1, (met.0 s).2 ∙ was.2),
          met.1 ∙ text_at_mid,
        ))
