-- What an opening leaves of the pairs that it may find.
use Rattle.std.proofs.Common.{◌≡◌, ◌⊎◌, inl, inr, ℕ, ◌<◌, Bool, true, false, List, [], ◌∷◌, length, drop, refl, sym, ◌∙◌, ap, subst}
use Rattle.std.specs.Prelude.{◌==◌}
use Rattle.std.specs.Bool.{Decides}
use Rattle.std.specs.Cmp.{unsigned_Decides}
use Rattle.host_model.specs.declared.host.Host.{Ghosts}
use Rattle.host_model.specs.declared.side.Side.{Side}
use Rattle.host_model.specs.declared.side.Side.TheVariants.{Left, Right}
use Rattle.host_model.specs.Hosts.{MeetsAll}
use Rattle.host_model.specs.Sides.{other, on}
use Rattle.host_model.proofs.Meeting.{met_weaker}
use Rattle.gate_journal.specs.Records.{place_of, IsOpen, IsShut}
use Rattle.gate_journal.proofs.Unique.{one_reading}
use Rattle.pair_store.specs.Moments.{IsOpening}
use Rattle.pair_store.specs.Pair.{generation_after, IsEarlier, Counts, HasList, HasKeptList}
use Rattle.pair_store.specs.Repair.{IsRepaired}
use Rattle.pair_store.proofs.Beside.{on_of}
use Rattle.pair_store.proofs.Turning.{first_open}
use Rattle.pair_store.proofs.Unique.{open_not_shut, not_both_next}
use Rattle.client_state.specs.declared.client_state.ClientState.{ClientState}
use Rattle.client_store.specs.Moments.{IsLeftAmong}
use Rattle.client_store.specs.OpenStore.{AllKeptAmong}
use Rattle.client_store.specs.Store.{KeptFor, KeptAmong}

-- ---- on lists: the side `here` is open, and `there` with the generation before

module _ (here there : List ℕ) (generation : ℕ) (own : List (List ℕ)) (later : IsOpen generation own here) (earlier : IsEarlier generation there) where
  -- the other side doesn't count
  not_counted : (payloads : List (List ℕ)) → Counts payloads there here → ⊥
  not_counted payloads counts = elim counts.rest [
    | inl shut ↦ open_not_shut generation own here later shut
    | inr before ↦
        let same_here : before.before ≡ generation = (one_reading before.before generation before.payloads own here before.side later).0 in
        let same_there : earlier.before ≡ counts.generation = (one_reading earlier.before counts.generation earlier.payloads payloads there earlier.side counts.side).0 in
        not_both_next counts.generation generation counts.side.known later.known
        (before.next ∙ ap generation_after same_here) (earlier.next ∙ ap generation_after same_there)
  ]

  -- with any first byte it is shut, or as it was
  beside : (generation : ℕ) (byte : ℕ) (is_one : Bool) → Decides is_one (byte ≡ 1) → IsShut there ⊎ IsEarlier generation there → IsShut (byte ∷ drop 1 there) ⊎ IsEarlier generation (byte ∷ drop 1 there)
  beside g byte true decides was =
      let same : there ≡ byte ∷ drop 1 there = sym (first_open earlier.before earlier.payloads there earlier.side) ∙ ap (λ (b : ℕ). b ∷ drop 1 there) (sym (decides.0 refl)) in
      subst (λ (c : List ℕ). IsShut c ⊎ IsEarlier g c) same was
  beside g byte false decides was = inl (λ is. absurd (let one = decides.1 is in cc))

  counted : (payloads : List (List ℕ)) (new_here new_there : List ℕ) → new_here ≡ here → (byte : ℕ) → new_there ≡ byte ∷ drop 1 there → Counts payloads here there → Counts payloads new_here new_there
  counted payloads new_here new_there here_same byte there_is counts = record {
    generation = counts.generation;
    side = subst (IsOpen counts.generation payloads) (sym here_same) counts.side;
    some = counts.some;
    rest = subst (λ (c : List ℕ). IsShut c ⊎ IsEarlier counts.generation c) (sym there_is) (beside counts.generation byte (byte == 1) (unsigned_Decides byte 1) counts.rest);
  }

-- ---- on pairs

-- the pair has the list that it had, with a byte at its gate where there was one
module _ (old_l old_r l r : List ℕ) where
  abbrev IsLater : Side → Type 0
  IsLater side = (generation : ℕ) × (own : List (List ℕ)) × IsOpen generation own (on side old_l old_r) × IsEarlier generation (on (other side) old_l old_r)

  abbrev IsAsBefore : Side → Type 0
  IsAsBefore side = (on side l r ≡ on side old_l old_r) × ((byte : ℕ) × (on (other side) l r ≡ byte ∷ drop 1 (on (other side) old_l old_r)))

  has_list : (side : Side) → IsLater side → IsAsBefore side → (payloads : List (List ℕ)) → HasList old_l old_r payloads → HasList l r payloads
  has_list Left later as_before payloads (Left, counts) = (Left, counted old_l old_r later.0 later.1 later.2 later.3 payloads l r as_before.0 as_before.1.0 as_before.1.1 counts)
  has_list Left later as_before payloads (Right, counts) = absurd (not_counted old_l old_r later.0 later.1 later.2 later.3 payloads counts)
  has_list Right later as_before payloads (Left, counts) = absurd (not_counted old_r old_l later.0 later.1 later.2 later.3 payloads counts)
  has_list Right later as_before payloads (Right, counts) = (Right, counted old_r old_l later.0 later.1 later.2 later.3 payloads r l as_before.0 as_before.1.0 as_before.1.1 counts)

  has_kept_list : (side : Side) → IsLater side → IsAsBefore side → (payloads : List (List ℕ)) → HasKeptList old_l old_r payloads → HasKeptList l r payloads
  has_kept_list Left later as_before payloads (Left, counts, gate) =
      (Left, counted old_l old_r later.0 later.1 later.2 later.3 payloads l r as_before.0 as_before.1.0 as_before.1.1 counts, subst (λ (c : List ℕ). place_of payloads < length c) (sym as_before.0) gate)
  has_kept_list Left later as_before payloads (Right, counts, gate) = absurd (not_counted old_l old_r later.0 later.1 later.2 later.3 payloads counts)
  has_kept_list Right later as_before payloads (Left, counts, gate) = absurd (not_counted old_r old_l later.0 later.1 later.2 later.3 payloads counts)
  has_kept_list Right later as_before payloads (Right, counts, gate) =
      (Right, counted old_r old_l later.0 later.1 later.2 later.3 payloads r l as_before.0 as_before.1.0 as_before.1.1 counts, subst (λ (c : List ℕ). place_of payloads < length c) (sym as_before.0) gate)

-- ---- on a host

module _ {H : Type 0} (h : Ghosts H) (start : H) (l r : List ℕ) (repaired : IsRepaired h start l r) where
  later_is : IsLater (h.reads start Left) (h.reads start Right) l r repaired.side
  later_is = (
    repaired.generation,
    repaired.payloads,
    subst (IsOpen repaired.generation repaired.payloads) (sym (on_of (h.reads start) repaired.side)) repaired.later,
    subst (IsEarlier repaired.generation) (sym (on_of (h.reads start) (other repaired.side))) repaired.earlier,
  )

  as_before_is : IsAsBefore (h.reads start Left) (h.reads start Right) l r repaired.side
  as_before_is = (
    repaired.here ∙ sym (on_of (h.reads start) repaired.side),
    (repaired.there.0, repaired.there.1 ∙ ap (λ (c : List ℕ). repaired.there.0 ∷ drop 1 c) (sym (on_of (h.reads start) (other repaired.side)))),
  )

  pub repaired_list : (payloads : List (List ℕ)) → HasList (h.reads start Left) (h.reads start Right) payloads → HasList l r payloads
  repaired_list payloads has = has_list (h.reads start Left) (h.reads start Right) l r repaired.side later_is as_before_is payloads has

  pub repaired_kept : (s : ClientState) → KeptFor (h.reads start Left) (h.reads start Right) s → KeptFor l r s
  repaired_kept s kept = record {
    sound = kept.sound;
    stored = kept.stored;
    form = kept.form;
    rows = (kept.rows.0, has_kept_list (h.reads start Left) (h.reads start Right) l r repaired.side later_is as_before_is kept.rows.0 kept.rows.1, kept.rows.2);
  }

  pub repaired_among : (states : List ClientState) → KeptAmong (h.reads start Left) (h.reads start Right) states → KeptAmong l r states
  repaired_among [] among = among
  repaired_among (s ∷ states) (inl kept) = inl (repaired_kept s kept)
  repaired_among (s ∷ states) (inr among) = inr (repaired_among states among)

-- each image that an opening may leave is kept among the states of which each was kept
pub opening_among : {H : Type 0} (h : Ghosts H) (start : H) (states : List ClientState) → h.images start Left (h.reads start Left) → h.images start Right (h.reads start Right) → AllKeptAmong h start states
    → (l r u : List ℕ) → IsOpening h start l r u → KeptAmong l r states
opening_among h start states left right all l r u (inl now) = all l r now.0 now.1
opening_among h start states left right all l r u (inr (repaired, text)) = repaired_among h start l r repaired states (all (h.reads start Left) (h.reads start Right) left right)

-- an opening says nothing
pub opening_quiet : {H : Type 0} (h : Ghosts H) (start : H) (l r u : List ℕ) → IsOpening h start l r u → u ≡ h.said start
opening_quiet h start l r u (inl now) = now.2
opening_quiet h start l r u (inr (repaired, text)) = text

-- at each moment of it each image is kept among them
pub opening_left : {H : Type 0} (h : Ghosts H) (start new : H) (states : List ClientState) → h.images start Left (h.reads start Left) → h.images start Right (h.reads start Right) → AllKeptAmong h start states
    → MeetsAll h start new (IsOpening h start) → MeetsAll h start new (IsLeftAmong (h.said start) states)
opening_left h start new states left right all run =
    met_weaker h.moment h.might start new _ _ run (λ l r u met. (opening_among h start states left right all l r u met, opening_quiet h start l r u met))
