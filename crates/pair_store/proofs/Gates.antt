-- One side of a pair counts, and the gate of a list that is kept stands on it.
use Rattle.std.proofs.Common.{◌≡◌, ◌⊎◌, inl, inr, ◌<◌, ℕ, Bool, true, false, List, length, refl, sym, ◌∙◌, ap, subst}
use Rattle.host_model.specs.declared.side.Side.{Side}
use Rattle.host_model.specs.declared.side.Side.TheVariants.{Left, Right}
use Rattle.host_model.specs.Sides.{other, on}
use Rattle.gate_journal.specs.Records.{place_of, IsShut}
use Rattle.gate_journal.proofs.Unique.{one_reading}
use Rattle.pair_store.specs.declared.records.Choice.{Choice}
use Rattle.pair_store.specs.Choice.{payloads_of, IsBeside, IsChoice}
use Rattle.pair_store.specs.Pair.{Counts, HasKeptList, IsEarlier}
use Rattle.pair_store.proofs.Unique.{not_both_count}

pub one_side : (l r : List ℕ) (side s : Side) (payloads others : List (List ℕ)) → Counts payloads (on side l r) (on (other side) l r) → Counts others (on s l r) (on (other s) l r)
    → (side ≡ s) × (payloads ≡ others)
one_side l r Left Left payloads others a b = (refl, (one_reading a.generation b.generation payloads others l a.side b.side).1)
one_side l r Right Right payloads others a b = (refl, (one_reading a.generation b.generation payloads others r a.side b.side).1)
one_side l r Left Right payloads others a b = absurd (not_both_count payloads others l r a b)
one_side l r Right Left payloads others a b = absurd (not_both_count payloads others r l a b)

-- what stands beside the side that counts
pub beside_sum : (is_open : Bool) (generation : ℕ) (image : List ℕ) → IsBeside is_open generation image → IsShut image ⊎ IsEarlier generation image
beside_sum true generation image earlier = inr earlier
beside_sum false generation image shut = inl shut

-- the choice counts
choice_counts : (l r : List ℕ) (choice : Choice) → IsChoice l r choice → Counts (payloads_of choice.records) (on choice.records.side l r) (on (other choice.records.side) l r)
choice_counts l r choice is = record {
  generation = choice.records.journal.generation;
  side = is.read.open_with;
  some = is.some;
  rest = beside_sum choice.is_other_open choice.records.journal.generation (on (other choice.records.side) l r) is.rest;
}

pub choice_gate : (l r : List ℕ) (choice : Choice) → IsChoice l r choice → (payloads : List (List ℕ)) → HasKeptList l r payloads
    → (payloads_of choice.records ≡ payloads) × (choice.records.journal.place < length (on choice.records.side l r))
choice_gate l r choice is payloads (side, counts, byte) =
    let same = one_side l r choice.records.side side (payloads_of choice.records) payloads (choice_counts l r choice is) counts in
    let place : choice.records.journal.place ≡ place_of payloads = is.read.place ∙ ap place_of same.1 in
    let gate : place_of payloads < length (on choice.records.side l r) = subst (λ (s : Side). place_of payloads < length (on s l r)) (sym same.0) byte in
    (same.1, subst (λ (n : ℕ). n < length (on choice.records.side l r)) (sym place) gate)
