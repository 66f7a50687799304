-- What is met while the whole is made on the other side, and this one closed.
use Rattle.std.proofs.Common.{◌≡◌, ◌⊎◌, inl, inr, ◌<◌, ℕ, List, [], ◌∷◌, length, drop, refl, sym, ◌∙◌, ap, subst, arith}
use Rattle.std.proofs.lemmas.Bool.{cases_eq}
use Rattle.host_model.specs.declared.host.Host.{Ghosts}
use Rattle.host_model.specs.declared.side.Side.{Side}
use Rattle.host_model.specs.Hosts.{IsDurable, KeepsAll, MeetsAll, OnSideOf}
use Rattle.host_model.specs.Sides.{other, on}
use Rattle.host_model.proofs.Meeting.{then_met, met_weaker, turned, kept_turned}
use Rattle.gate_journal.specs.Journal.{StandsWithGate, IsShutOrHas, SameButFirst}
use Rattle.gate_journal.specs.OpenSide.{OpenSide}
use Rattle.gate_journal.specs.Records.{made_on, place_of, IsKept, IsOpen, IsShut}
use Rattle.pair_store.specs.Moments.{HasEither, KeepsEither}
use Rattle.pair_store.specs.Pair.{generation_after, Counts, HasKeptList, IsEarlier}
use Rattle.pair_store.specs.Store.{PairStands, PairStandsWithGate, IsTurned}
use Rattle.gate_journal.proofs.Standing.{kept_of_stands}
use Rattle.pair_store.proofs.Beside.{on_other_twice}

-- an open side with its first byte once more
pub first_open : (generation : ℕ) (payloads : List (List ℕ)) (image : List ℕ) → IsOpen generation payloads image → 1 ∷ drop 1 image ≡ image
first_open generation payloads image side = ap (λ (l : List ℕ). 1 ∷ drop 1 l) side.bytes ∙ sym side.bytes

-- this side is as at the start and the other one closed, or the pair has the whole alone
abbrev pub IsTurning : {H : Type 0} → Ghosts H → Side → H → List ℕ → List ℕ → List ℕ → List ℕ → Type 0
IsTurning h side start whole l r u = ((h.images start side (on side l r) × IsShut (on (other side) l r)) ⊎ HasKeptList l r (whole ∷ [])) × (u ≡ h.said start)

module _ {H : Type 0} (h : Ghosts H) (side : Side) (generation : ℕ) (payloads : List (List ℕ)) (whole : List ℕ) (start : H)
    (here : IsOpen generation payloads (h.reads start side)) (some : 0 < length payloads) (only : IsDurable h start side) where
  earlier_here : (c : List ℕ) → IsOpen generation payloads c → IsEarlier (generation_after generation) c
  earlier_here c is = record { before = generation; payloads = payloads; side = is; some = some; next = refl }

  whole_list : (l r : List ℕ) → IsKept (generation_after generation) (whole ∷ []) (on (other side) l r) → IsShut (on side l r) ⊎ IsEarlier (generation_after generation) (on side l r)
      → HasKeptList l r (whole ∷ [])
  whole_list l r kept rest = (
    other side,
    record {
      generation = generation_after generation;
      side = kept.side;
      some = omega arith;
      rest = subst (λ (c : List ℕ). IsShut c ⊎ IsEarlier (generation_after generation) c) (sym (on_other_twice side l r)) rest;
    },
    kept.gate,
  )

  while_made : (l r u : List ℕ) → OnSideOf h start (other side) (IsShutOrHas (generation_after generation) whole) l r u → IsTurning h side start whole l r u
  while_made l r u met =
      let seen = turned h.images h.said start side (IsShutOrHas (generation_after generation) whole) l r u met in
      let is : IsOpen generation payloads (on side l r) = subst (IsOpen generation payloads) (sym (only (on side l r) seen.0)) here in (
        elim seen.1 [
          | inl shut ↦ inl (seen.0, shut)
          | inr kept ↦ inr (whole_list l r kept (inr (earlier_here (on side l r) is)))
        ],
        seen.2,
      )

  pub made_met : (mid : H) → MeetsAll h start mid (OnSideOf h start (other side) (IsShutOrHas (generation_after generation) whole)) → MeetsAll h start mid (IsTurning h side start whole)
  made_met mid first = met_weaker h.moment h.might start mid _ _ first while_made

  -- what a closing that is torn leaves of this side
  closed_or_earlier : (old c : List ℕ) → IsOpen generation payloads old → (c ≡ old) ⊎ ((byte : ℕ) × (c ≡ byte ∷ drop 1 old)) → IsShut c ⊎ IsEarlier (generation_after generation) c
  closed_or_earlier old c is (inl same) = inr (earlier_here c (subst (IsOpen generation payloads) (sym same) is))
  closed_or_earlier old c is (inr first) = elim (cases_eq first.0 1) [
    | inl one ↦ inr (earlier_here c (subst (IsOpen generation payloads) (sym (first.1 ∙ ap (λ (n : ℕ). n ∷ drop 1 old) one ∙ first_open generation payloads old is)) is))
    | inr shut ↦ inl (subst IsShut (sym first.1) shut)
  ]

  module _ (mid new : H) (rest : KeepsAll h (other (other side)) start mid) (made : IsKept (generation_after generation) (whole ∷ []) (h.reads mid (other side))) (only_made : IsDurable h mid (other side)) where
    while_closed : (l r u : List ℕ) → OnSideOf h mid side (SameButFirst (h.images mid side)) l r u → IsTurning h side start whole l r u
    while_closed l r u met =
        let kept_here = kept_turned h.reads h.images h.said side start mid rest in
        let old = met.0.0 in
        let was : old ≡ h.reads start side = only old ((kept_here.images_same old).0 met.0.1) in
        let is : IsOpen generation payloads old = subst (IsOpen generation payloads) (sym was) here in
        let there : IsKept (generation_after generation) (whole ∷ []) (on (other side) l r) = subst (IsKept (generation_after generation) (whole ∷ [])) (sym (only_made (on (other side) l r) met.1)) made in
        (inr (whole_list l r there (closed_or_earlier old (on side l r) is met.0.2)), met.2 ∙ kept_here.text)

    pub turned_met : MeetsAll h start mid (OnSideOf h start (other side) (IsShutOrHas (generation_after generation) whole)) → MeetsAll h mid new (OnSideOf h mid side (SameButFirst (h.images mid side)))
        → MeetsAll h start new (IsTurning h side start whole)
    turned_met first second = then_met h.moment h.might start mid new _ _ _ first second while_made while_closed

  -- in the pair's own words
  counts_before : (l r : List ℕ) → h.images start side (on side l r) → IsShut (on (other side) l r) → Counts payloads (on side l r) (on (other side) l r)
  counts_before l r image shut = record { generation = generation; side = subst (IsOpen generation payloads) (sym (only (on side l r) image)) here; some = some; rest = inl shut }

  pub has_either : (new : H) → MeetsAll h start new (IsTurning h side start whole) → MeetsAll h start new (HasEither h start payloads (whole ∷ []))
  has_either new run = met_weaker h.moment h.might start new _ _ run (λ l r u met. (
    elim met.0 [
      | inl before ↦ inl (side, counts_before l r before.0 before.1)
      | inr after ↦ inr after
    ],
    met.1,
  ))

  pub keeps_either : (new : H) → place_of payloads < length (h.reads start side) → MeetsAll h start new (IsTurning h side start whole) → MeetsAll h start new (KeepsEither h start payloads (whole ∷ []))
  keeps_either new gate run = met_weaker h.moment h.might start new _ _ run (λ l r u met. (
    elim met.0 [
      | inl before ↦ inl (side, counts_before l r before.0 before.1, subst (λ (c : List ℕ). place_of payloads < length c) (sym (only (on side l r) before.0)) gate)
      | inr after ↦ inr after
    ],
    met.1,
  ))

-- the same of a store, by the names that its fields have
module _ {H : Type 0} (h : Ghosts H) (now made : OpenSide) (here there : Side) (generation : ℕ) (whole : List ℕ) (start mid new : H)
    (is_here : here ≡ now.side) (is_there : there ≡ other now.side) (is_next : generation ≡ generation_after now.generation) (made_side : made.side ≡ there) (made_generation : made.generation ≡ generation)
    (first : MeetsAll h start mid (OnSideOf h start there (IsShutOrHas generation whole))) (rest : KeepsAll h (other there) start mid) (gated : StandsWithGate h made mid (whole ∷ []))
    (second : MeetsAll h mid new (OnSideOf h mid here (SameButFirst (h.images mid here)))) where
  kept : IsKept (generation_after now.generation) (whole ∷ []) (h.reads mid (other now.side))
  kept = subst (λ (s : Side). IsKept (generation_after now.generation) (whole ∷ []) (h.reads mid s)) (made_side ∙ is_there)
      (subst (λ (g : ℕ). IsKept g (whole ∷ []) (h.reads mid made.side)) (made_generation ∙ is_next) (kept_of_stands h made mid (whole ∷ []) gated))

  turning : (payloads : List (List ℕ)) → PairStands h now start payloads → MeetsAll h start new (IsTurning h now.side start whole)
  turning payloads stands = turned_met h now.side now.generation payloads whole start stands.side.side stands.some stands.side.only mid new
      (subst (λ (s : Side). KeepsAll h (other s) start mid) is_there rest) kept
      (subst (λ (s : Side). IsDurable h mid s) (made_side ∙ is_there) gated.stands.only)
      (subst (λ (g : ℕ). MeetsAll h start mid (OnSideOf h start (other now.side) (IsShutOrHas g whole))) is_next (subst (λ (s : Side). MeetsAll h start mid (OnSideOf h start s (IsShutOrHas generation whole))) is_there first))
      (subst (λ (s : Side). MeetsAll h mid new (OnSideOf h mid s (SameButFirst (h.images mid s)))) is_here second)

  pub turn_has : (payloads : List (List ℕ)) → PairStands h now start payloads → MeetsAll h start new (HasEither h start payloads (whole ∷ []))
  turn_has payloads stands = has_either h now.side now.generation payloads whole start stands.side.side stands.some stands.side.only new (turning payloads stands)

  pub turn_keeps : (payloads : List (List ℕ)) → PairStandsWithGate h now start payloads → MeetsAll h start new (KeepsEither h start payloads (whole ∷ []))
  turn_keeps payloads gated_now =
      let stands = gated_now.stands in
      keeps_either h now.side now.generation payloads whole start stands.side.side stands.some stands.side.only new (omega (arith, gated_now.gate, stands.side.place)) (turning payloads stands)

-- the bytes of both sides then
pub turn_bytes : {H : Type 0} (h : Ghosts H) (now : OpenSide) (here there : Side) (generation : ℕ) (whole : List ℕ) (start mid new : H) → here ≡ now.side → there ≡ other now.side → generation ≡ generation_after now.generation
    → KeepsAll h (other there) start mid → h.reads mid there ≡ made_on generation whole (h.reads start there)
    → h.reads new here ≡ 0 ∷ drop 1 (h.reads mid here) → KeepsAll h (other here) mid new → IsTurned h now whole start new
turn_bytes h now here there generation whole start mid new is_here is_there is_next rest made closed back =
    let kept = kept_turned h.reads h.images h.said now.side start mid (subst (λ (s : Side). KeepsAll h (other s) start mid) is_there rest) in
    let made_there = subst (λ (s : Side). h.reads mid s ≡ made_on generation whole (h.reads start s)) is_there made in
    record {
      here = subst (λ (s : Side). h.reads new s ≡ 0 ∷ drop 1 (h.reads mid s)) is_here closed ∙ ap (λ (c : List ℕ). 0 ∷ drop 1 c) kept.reads_same;
      there = (subst (λ (s : Side). KeepsAll h (other s) mid new) is_here back).reads_same ∙ made_there ∙ ap (λ (g : ℕ). made_on g whole (h.reads start (other now.side))) is_next;
    }
