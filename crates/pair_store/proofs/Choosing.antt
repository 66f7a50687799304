-- Which pairs have no list.
use Rattle.std.proofs.Common.{◌≡◌, ◌⊎◌, inl, inr, ◌<◌, ℕ, List, [], ◌∷◌, length, drop, refl, sym, ◌∙◌, ap, subst, arith}
use Rattle.host_model.specs.declared.side.Side.{Side}
use Rattle.host_model.specs.declared.side.Side.TheVariants.{Left, Right}
use Rattle.host_model.specs.Sides.{other, on}
use Rattle.gate_journal.specs.Records.{IsClosed, IsOpen, IsShut}
use Rattle.gate_journal.proofs.Unique.{one_reading}
use Rattle.pair_store.specs.Choice.{IsDamaged}
use Rattle.pair_store.specs.Pair.{generation_after, Counts, HasList, HasNoStore, IsBad, IsEarlier}
use Rattle.pair_store.proofs.Unique.{earlier_beside}

-- open with at least one payload
pub record HasSome (image : List ℕ) : Type 0 where
  pub generation : ℕ
  pub payloads : List (List ℕ)
  pub side : IsOpen generation payloads image
  pub some : 0 < length payloads

here_has : (payloads : List (List ℕ)) (here there : List ℕ) → Counts payloads here there → HasSome here
here_has payloads here there counts = record { generation = counts.generation; payloads = payloads; side = counts.side; some = counts.some }

there_has : (payloads : List (List ℕ)) (here there : List ℕ) → Counts payloads here there → IsShut there ⊎ HasSome there
there_has payloads here there counts = elim counts.rest [
  | inl shut ↦ inl shut
  | inr earlier ↦ inr (record { generation = earlier.before; payloads = earlier.payloads; side = earlier.side; some = earlier.some })
]

-- each side of a pair that has a list is closed with a byte, or open with payloads
each_has : (l r : List ℕ) (payloads : List (List ℕ)) → HasList l r payloads → (side : Side) → IsShut (on side l r) ⊎ HasSome (on side l r)
each_has l r payloads (Left, counts) Left = inr (here_has payloads l r counts)
each_has l r payloads (Left, counts) Right = there_has payloads l r counts
each_has l r payloads (Right, counts) Left = there_has payloads r l counts
each_has l r payloads (Right, counts) Right = inr (here_has payloads r l counts)

-- and one is open
one_has : (l r : List ℕ) (payloads : List (List ℕ)) → HasList l r payloads → HasNoStore l r → ⊥
one_has l r payloads (Left, counts) closed = subst IsClosed counts.side.bytes closed.0 refl
one_has l r payloads (Right, counts) closed = subst IsClosed counts.side.bytes closed.1 refl

pub list_is_store : (l r : List ℕ) (payloads : List (List ℕ)) → HasList l r payloads → HasNoStore l r → ⊥
list_is_store l r payloads has closed = one_has l r payloads has closed

open_has_byte : (generation : ℕ) (payloads : List (List ℕ)) (image : List ℕ) → IsOpen generation payloads image → image ≡ [] → ⊥
open_has_byte generation payloads image side none = let same = sym side.bytes ∙ none in cc

-- a side without a byte, beside one that is open
pub empty_bad : (l r : List ℕ) (side : Side) → on side l r ≡ [] → (HasNoStore l r → ⊥) → IsBad l r
empty_bad l r side none store = record {
  open_side = store;
  no_list = λ payloads has. elim (each_has l r payloads has side) [
    | inl shut ↦ subst IsShut none shut
    | inr some ↦ open_has_byte some.generation some.payloads (on side l r) some.side none
  ];
}

-- a side that is damaged
pub damaged_bad : (l r : List ℕ) (side : Side) → IsDamaged (on side l r) → IsBad l r
damaged_bad l r side damaged = record {
  open_side = not_closed side damaged;
  no_list = λ payloads has. elim (each_has l r payloads has side) [
    | inl shut ↦ subst IsShut damaged.starts shut refl
    | inr some ↦ damaged.none some.generation some.payloads some.side some.some
  ];
}
  where
    not_closed : (s : Side) → IsDamaged (on s l r) → HasNoStore l r → ⊥
    not_closed Left d closed = subst IsClosed d.starts closed.0 refl
    not_closed Right d closed = subst IsClosed d.starts closed.1 refl

-- a side that is open is not closed
pub open_is_store : (l r : List ℕ) (side : Side) (generation : ℕ) (payloads : List (List ℕ)) → IsOpen generation payloads (on side l r) → HasNoStore l r → ⊥
open_is_store l r Left generation payloads open_with closed = subst IsClosed open_with.bytes closed.0 refl
open_is_store l r Right generation payloads open_with closed = subst IsClosed open_with.bytes closed.1 refl

-- two open sides, neither of which follows the other
pub equal_bad : (l r : List ℕ) (a b : ℕ) (payloads others : List (List ℕ)) → IsOpen a payloads l → IsOpen b others r → (a ≡ generation_after b → ⊥) → (b ≡ generation_after a → ⊥) → IsBad l r
equal_bad l r a b payloads others left right not_next not_back = record {
  open_side = open_is_store l r Left a payloads left;
  no_list = none;
}
  where
    none : (list : List (List ℕ)) → HasList l r list → ⊥
    none list (Left, counts) = not_next (sym (one_reading counts.generation a list payloads l counts.side left).0 ∙ earlier_beside b list l r counts others right)
    none list (Right, counts) = not_back (sym (one_reading counts.generation b list others r counts.side right).0 ∙ earlier_beside a list r l counts payloads left)

-- closed sides, with a byte or without
pub shut_is_closed : (image : List ℕ) → IsShut image → IsClosed image
shut_is_closed [] shut = tt
shut_is_closed (first ∷ rest) shut = shut

pub empty_is_closed : (image : List ℕ) → image ≡ [] → IsClosed image
empty_is_closed image none = subst IsClosed (sym none) tt

-- a side that is open with no payload is damaged
pub none_is_damaged : (generation : ℕ) (payloads : List (List ℕ)) (image : List ℕ) → IsOpen generation payloads image → length payloads ≡ 0 → IsDamaged image
none_is_damaged generation payloads image side none = record {
  first = drop 1 image;
  starts = side.bytes ∙ ap (λ (l : List ℕ). 1 ∷ drop 1 l) (sym side.bytes);
  none = λ g p reading some. absurd (omega (arith, none, some, ap length (one_reading generation g payloads p image side reading).1));
}

-- a choice is a list
pub choice_list : (l r : List ℕ) (side : Side) (generation : ℕ) (payloads : List (List ℕ)) → IsOpen generation payloads (on side l r) → 0 < length payloads
    → IsShut (on (other side) l r) ⊎ IsEarlier generation (on (other side) l r) → HasList l r payloads
choice_list l r side generation payloads here some rest = (side, record { generation = generation; side = here; some = some; rest = rest })
