-- A record behind a closed gate, and then the gate is opened.
use Rattle.std.proofs.Common.{◌≡◌, ◌≢◌, inl, inr, ℕ, ◌+◌, ◌<◌, ◌≤◌, List, [], ◌∷◌, ◌++◌, length, get_or, take, drop, ◌-◌, refl, sym, ◌∙◌, ap, subst, arith, append_assoc, length-append}
use Rattle.std.proofs.lemmas.Bool.{cases_eq}
use Rattle.std.proofs.lemmas.List.{append-nil, take_at}
use Rattle.std.specs.Int.{w32, to_be_bytes}
use Rattle.host_model.specs.declared.host.Host.{Ghosts}
use Rattle.host_model.specs.Hosts.{IsDurable, KeepsAll, MeetsAll, OnSideOf}
use Rattle.host_model.specs.Images.{overwritten, Torn, IsAfter}
use Rattle.host_model.specs.Sides.{other}
use Rattle.host_model.proofs.Meeting.{then_met, met_weaker, on_side_weaker, on_side_from}
use Rattle.gate_journal.specs.declared.format.TheConstants.{MAX_SIDE_END}
use Rattle.gate_journal.specs.Frame.{payload_in}
use Rattle.gate_journal.specs.Journal.{Stands, StandsWithGate, IsBeforeOrAfter}
use Rattle.gate_journal.specs.OpenSide.{OpenSide}
use Rattle.gate_journal.specs.Records.{framed, recorded, records, header, opened, place_of, IsClosed, IsOpen, IsKept}
use Rattle.gate_journal.proofs.Standing.{kept_of_stands}
use Rattle.gate_journal.proofs.Gates.{torn_behind, torn_gate, written_gate, written_behind, Staged}
use Rattle.gate_journal.proofs.Writes.{written_twice}

pub length-framed : (payload : List ℕ) → length (framed payload) ≡ length payload + 4
unfolding framed
length-framed payload = omega (arith, length-append (to_be_bytes w32 (length payload)) payload)

behind_length : (payload : List ℕ) → drop 4 (framed payload) ≡ payload
unfolding framed
behind_length payload = refl

-- a frame gives its payload back
pub unframed : (payload : List ℕ) → payload_in (framed payload ++ 0 ∷ []) ≡ payload
unframed payload =
    let size : length (framed payload ++ 0 ∷ []) - 1 ≡ length (framed payload) = omega (arith, length-append (framed payload) (0 ∷ [])) in
    ap (λ (n : ℕ). drop 4 (take n (framed payload ++ 0 ∷ []))) size ∙ ap (λ (l : List ℕ). drop 4 l) (take_at (framed payload) (0 ∷ []) (length (framed payload)) refl) ∙ behind_length payload

pub length-opened : (generation : ℕ) (payloads : List (List ℕ)) → length (opened generation payloads) ≡ place_of payloads
length-opened generation payloads = omega arith

pub records-push : (payloads : List (List ℕ)) (next : List ℕ) → records (payloads ++ next ∷ []) ≡ records payloads ++ 1 ∷ framed next
records-push [] next = ap (λ (l : List ℕ). 1 ∷ l) (append-nil (framed next))
records-push (payload ∷ payloads) next =
    ap (λ (l : List ℕ). 1 ∷ framed payload ++ l) (records-push payloads next) ∙ sym (append_assoc (1 ∷ framed payload) (records payloads) (1 ∷ framed next))

pub opened-push : (generation : ℕ) (payloads : List (List ℕ)) (next : List ℕ) → opened generation (payloads ++ next ∷ []) ≡ opened generation payloads ++ 1 ∷ framed next
opened-push generation payloads next = ap (λ (l : List ℕ). 1 ∷ header generation ++ l) (records-push payloads next)

pub place_of-push : (payloads : List (List ℕ)) (next : List ℕ) → place_of (payloads ++ next ∷ []) ≡ place_of payloads + length next + 5
place_of-push payloads next =
    omega (arith, ap length (records-push payloads next), length-append (records payloads) (1 ∷ framed next), length-framed next)

-- an open side with a gate that isn't open
pub is_kept : (generation : ℕ) (payloads : List (List ℕ)) (gate : ℕ) (rest image : List ℕ) → generation ≤ 2 → place_of payloads < MAX_SIDE_END → gate ≢ 1
    → image ≡ opened generation payloads ++ gate ∷ rest → IsKept generation payloads image
is_kept generation payloads gate rest image known fits closed is = record {
  side = record { rest = gate ∷ rest; bytes = is; ended = closed; known = known; fits = fits };
  gate = omega (arith, ap length is, length-append (opened generation payloads) (gate ∷ rest), length-opened generation payloads);
}

-- what stands behind the payloads once the next is written and its gate still closed
abbrev pub IsStaged : ℕ → List (List ℕ) → List ℕ → List ℕ → Type 0
IsStaged generation payloads next image = Staged (opened generation payloads) (framed next ++ 0 ∷ []) image

module _ (generation : ℕ) (payloads : List (List ℕ)) (next : List ℕ) (place : ℕ) (at_place : place ≡ place_of payloads) (known : generation ≤ 2) (fits : place + length next + 5 < MAX_SIDE_END) where
  at_front : length (opened generation payloads) ≡ place
  at_front = length-opened generation payloads ∙ sym at_place

  here : place_of payloads < MAX_SIDE_END
  here = omega arith

  -- the first write leaves the payloads as they are, where there is a gate
  kept_behind : (n : ℕ) (old c : List ℕ) → IsKept generation payloads old → Torn (place + 1) n old c → IsKept generation payloads c
  kept_behind n old c kept torn = with_rest kept.side.rest kept.side.ended kept.side.bytes
    where
      with_rest : (rest : List ℕ) → IsClosed rest → old ≡ opened generation payloads ++ rest → IsKept generation payloads c
      with_rest [] closed is = absurd (omega (arith, kept.gate, ap length (is ∙ append-nil (opened generation payloads)), at_front, at_place))
      with_rest (gate ∷ rest) closed is =
          is_kept generation payloads gate (drop (place + 1) c) c known here closed (torn_behind (opened generation payloads) place at_front n gate rest c (subst (λ (d : List ℕ). Torn (place + 1) n d c) is torn))

  -- what stands after it
  pub staged : (old written mid : List ℕ) → IsOpen generation payloads old → written ≡ framed next ++ 0 ∷ [] → mid ≡ overwritten old (place + 1) written → IsStaged generation payloads next mid
  staged old written mid side framed_is is =
      let same : mid ≡ overwritten (opened generation payloads ++ side.rest) (place + 1) (framed next ++ 0 ∷ []) =
      is ∙ ap (λ (d : List ℕ). overwritten d (place + 1) written) side.bytes ∙ ap (λ (l : List ℕ). overwritten (opened generation payloads ++ side.rest) (place + 1) l) framed_is in
      subst (λ (e : List ℕ). IsStaged generation payloads next e) (sym same) (written_behind (opened generation payloads) place at_front side.rest (framed next ++ 0 ∷ []) side.ended)

  -- with an open gate the next payload is there
  next_kept : (tail image : List ℕ) → image ≡ opened generation payloads ++ 1 ∷ (framed next ++ 0 ∷ [] ++ tail) → IsKept generation (payloads ++ next ∷ []) image
  next_kept tail image is = is_kept generation (payloads ++ next ∷ []) 0 tail image known (omega (arith, place_of-push payloads next, fits, at_place)) (omega arith)
      (is ∙ ap (λ (l : List ℕ). opened generation payloads ++ 1 ∷ l) (append_assoc (framed next) (0 ∷ []) tail)
      ∙ sym (append_assoc (opened generation payloads) (1 ∷ framed next) (0 ∷ tail)) ∙ ap (λ (l : List ℕ). l ++ 0 ∷ tail) (sym (opened-push generation payloads next)))

  -- the second write leaves the payloads of before, or these and the next
  kept_either : (mid c : List ℕ) → IsStaged generation payloads next mid → Torn place 1 mid c → IsBeforeOrAfter generation payloads next c
  kept_either mid c stage torn =
      let is : c ≡ opened generation payloads ++ get_or c place 0 ∷ (framed next ++ 0 ∷ [] ++ stage.tail) =
      torn_gate (opened generation payloads) place at_front stage.gate _ c (subst (λ (d : List ℕ). Torn place 1 d c) stage.bytes torn) in
      elim (cases_eq (get_or c place 0) 1) [
        | inl one ↦ inr (next_kept stage.tail c (is ∙ ap (λ (k : ℕ). opened generation payloads ++ k ∷ (framed next ++ 0 ∷ [] ++ stage.tail)) one))
        | inr shut ↦ inl (is_kept generation payloads (get_or c place 0) _ c known here shut is)
      ]

  -- and when it is done, these and the next
  pub kept_done : (mid new : List ℕ) → IsStaged generation payloads next mid → new ≡ overwritten mid place (1 ∷ []) → IsKept generation (payloads ++ next ∷ []) new
  kept_done mid new stage is =
      next_kept stage.tail new (is ∙ ap (λ (d : List ℕ). overwritten d place (1 ∷ [])) stage.bytes ∙ written_gate (opened generation payloads) place at_front stage.gate 1 _)

-- what is met up to the end of the first write, and of the second. The journal is seen as its fields, and as now
module _ {H : Type 0} (h : Ghosts H) (journal now : OpenSide) (seen : journal ≡ now) (start : H) (payloads : List (List ℕ)) (next : List ℕ) (fits_now : now.place + length next + 5 < MAX_SIDE_END) (stands_now : StandsWithGate h now start payloads) (n : ℕ) where
  fits : journal.place + length next + 5 < MAX_SIDE_END
  fits = omega (arith, fits_now, ap (λ (j : OpenSide). j.place) seen)

  was : StandsWithGate h journal start payloads
  was = subst (λ (j : OpenSide). StandsWithGate h j start payloads) (sym seen) stands_now

  still_before : (c : List ℕ) → IsAfter (Torn (journal.place + 1) n) (h.images start journal.side) c → IsBeforeOrAfter journal.generation payloads next c
  still_before c after =
      let stands = was.stands in
      inl (kept_behind journal.generation payloads next journal.place stands.place stands.side.known fits n (h.reads start journal.side) c (kept_of_stands h journal start payloads was)
      (subst (λ (d : List ℕ). Torn (journal.place + 1) n d c) (stands.only after.0 after.1) after.2))

  pub first_met : (mid : H) → MeetsAll h start mid (OnSideOf h start journal.side (IsAfter (Torn (journal.place + 1) n) (h.images start journal.side)))
      → MeetsAll h start mid (OnSideOf h start now.side (IsBeforeOrAfter now.generation payloads next))
  first_met mid first = subst (λ (j : OpenSide). MeetsAll h start mid (OnSideOf h start j.side (IsBeforeOrAfter j.generation payloads next))) seen
      (met_weaker h.moment h.might start mid _ _ first (on_side_weaker h.images h.said start journal.side _ _ still_before))

  pub second_met : (mid new : H) (written : List ℕ) → MeetsAll h start mid (OnSideOf h start journal.side (IsAfter (Torn (journal.place + 1) n) (h.images start journal.side)))
      → KeepsAll h (other journal.side) start mid → written ≡ framed next ++ 0 ∷ [] → h.reads mid journal.side ≡ overwritten (h.reads start journal.side) (journal.place + 1) written → IsDurable h mid journal.side
      → MeetsAll h mid new (OnSideOf h mid journal.side (IsAfter (Torn journal.place 1) (h.images mid journal.side)))
      → MeetsAll h start new (OnSideOf h start now.side (IsBeforeOrAfter now.generation payloads next))
  second_met mid new written first rest framed_is is only second =
      let stands = was.stands in
      let side = journal.side in
      let stage = staged journal.generation payloads next journal.place stands.place stands.side.known fits (h.reads start side) written (h.reads mid side) stands.side framed_is is in
      subst (λ (j : OpenSide). MeetsAll h start new (OnSideOf h start j.side (IsBeforeOrAfter j.generation payloads next))) seen
      (then_met h.moment h.might start mid new _ _ _ first second (on_side_weaker h.images h.said start side _ _ still_before)
      (on_side_from h.reads h.images h.said start mid side (IsAfter (Torn journal.place 1) (h.images mid side)) (IsBeforeOrAfter journal.generation payloads next) rest
      (λ c after. kept_either journal.generation payloads next journal.place stands.place stands.side.known fits (h.reads mid side) c stage (subst (λ (d : List ℕ). Torn journal.place 1 d c) (only after.0 after.1) after.2))))

-- and once both are on the disk
pub appended : {H : Type 0} (h : Ghosts H) (journal now : OpenSide) → journal ≡ now → (start mid new : H) (payloads : List (List ℕ)) (next written : List ℕ) (end : ℕ) → end ≡ now.place + length next + 5 → end < MAX_SIDE_END
    → Stands h now start payloads → written ≡ framed next ++ 0 ∷ [] → h.reads mid journal.side ≡ overwritten (h.reads start journal.side) (journal.place + 1) written
    → h.reads new journal.side ≡ overwritten (h.reads mid journal.side) journal.place (1 ∷ []) → IsDurable h new journal.side
    → StandsWithGate h (record { side = journal.side; generation = journal.generation; place = end }) new (payloads ++ next ∷ [])
appended h journal now seen start mid new payloads next written end end_is fits_now stands_now framed_is is is_new only =
    let stands = subst (λ (j : OpenSide). Stands h j start payloads) (sym seen) stands_now in
    let side = journal.side in
    let same : journal.place ≡ now.place = ap (λ (j : OpenSide). j.place) seen in
    let fits : journal.place + length next + 5 < MAX_SIDE_END = omega (arith, same, end_is, fits_now) in
    let stage = staged journal.generation payloads next journal.place stands.place stands.side.known fits (h.reads start side) written (h.reads mid side) stands.side framed_is is in
    let done = kept_done journal.generation payloads next journal.place stands.place stands.side.known fits (h.reads mid side) (h.reads new side) stage is_new in
    let place : end ≡ place_of (payloads ++ next ∷ []) = omega (arith, end_is, same, stands.place, place_of-push payloads next) in
    record { stands = record { side = done.side; place = place; only = only }; gate = omega (arith, done.gate, place) }

-- and the bytes of the side then
pub appended_bytes : {H : Type 0} (h : Ghosts H) (journal now : OpenSide) → journal ≡ now → (start mid new : H) (payloads : List (List ℕ)) (next written : List ℕ)
    → Stands h now start payloads → written ≡ framed next ++ 0 ∷ [] → h.reads mid journal.side ≡ overwritten (h.reads start journal.side) (journal.place + 1) written
    → h.reads new journal.side ≡ overwritten (h.reads mid journal.side) journal.place (1 ∷ [])
    → h.reads new now.side ≡ overwritten (h.reads start now.side) now.place (recorded next)
appended_bytes h journal now seen start mid new payloads next written stands_now framed_is is is_new =
    let stands = subst (λ (j : OpenSide). Stands h j start payloads) (sym seen) stands_now in
    let old = h.reads start journal.side in
    let within : journal.place ≤ length old =
    omega (arith, stands.place, ap length stands.side.bytes, length-append (opened journal.generation payloads) stands.side.rest, length-opened journal.generation payloads) in
    subst (λ (j : OpenSide). h.reads new j.side ≡ overwritten (h.reads start j.side) j.place (recorded next)) seen
    (is_new ∙ ap (λ (l : List ℕ). overwritten l journal.place (1 ∷ [])) is ∙ written_twice old journal.place 1 written within ∙ ap (λ (l : List ℕ). overwritten old journal.place (1 ∷ l)) framed_is)
