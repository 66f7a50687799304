-- A pair of images has one list of payloads at most.
use Rattle.std.proofs.Common.{◌≡◌, inl, inr, ◌≤◌, ℕ, List, refl, ◌∙◌, ap, subst, arith}
use Rattle.host_model.specs.declared.side.Side.TheVariants.{Left, Right}
use Rattle.gate_journal.specs.Records.{IsOpen, IsShut}
use Rattle.gate_journal.proofs.Unique.{one_reading}
use Rattle.pair_store.specs.Pair.{generation_after, Counts, HasOneList}

-- an open side is not closed
pub open_not_shut : (generation : ℕ) (payloads : List (List ℕ)) (image : List ℕ) → IsOpen generation payloads image → IsShut image → ⊥
open_not_shut generation payloads image side shut = subst IsShut side.bytes shut refl

-- no generation follows the one that follows it
pub not_both_next : (a b : ℕ) → a ≤ 2 → b ≤ 2 → a ≡ generation_after b → b ≡ generation_after a → ⊥
not_both_next a b known_a known_b next back = omega arith

-- beside a side that counts, an open one has the generation before
pub earlier_beside : (generation : ℕ) (payloads : List (List ℕ)) (here there : List ℕ) → (counts : Counts payloads here there) → (others : List (List ℕ)) → IsOpen generation others there
    → counts.generation ≡ generation_after generation
earlier_beside generation payloads here there counts others side = elim counts.rest [
  | inl shut ↦ absurd (open_not_shut generation others there side shut)
  | inr earlier ↦ earlier.next ∙ ap generation_after (one_reading earlier.before generation earlier.payloads others there earlier.side side).0
]

-- both sides don't count at once
pub not_both_count : (payloads others : List (List ℕ)) (here there : List ℕ) → Counts payloads here there → Counts others there here → ⊥
not_both_count payloads others here there a b =
    not_both_next a.generation b.generation a.side.known b.side.known (earlier_beside b.generation payloads here there a others b.side) (earlier_beside a.generation others there here b payloads a.side)

pub one_list : HasOneList
one_list l r payloads others (Left, a) (Left, b) = (one_reading a.generation b.generation payloads others l a.side b.side).1
one_list l r payloads others (Right, a) (Right, b) = (one_reading a.generation b.generation payloads others r a.side b.side).1
one_list l r payloads others (Left, a) (Right, b) = absurd (not_both_count payloads others l r a b)
one_list l r payloads others (Right, a) (Left, b) = absurd (not_both_count payloads others r l a b)
