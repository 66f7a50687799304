-- What follows where a pair stands for payloads.
use Rattle.std.proofs.Common.{◌≡◌, inl, ◌<◌, ℕ, List, length, sym, subst, arith}
use Rattle.host_model.specs.declared.host.Host.{Ghosts}
use Rattle.host_model.specs.declared.side.Side.{Side}
use Rattle.host_model.specs.declared.side.Side.TheVariants.{Left, Right}
use Rattle.host_model.specs.Sides.{other, on}
use Rattle.gate_journal.specs.OpenSide.{OpenSide}
use Rattle.gate_journal.specs.Records.{place_of, IsOpen, IsShut}
use Rattle.pair_store.specs.Pair.{Counts, HasList, HasKeptList}
use Rattle.pair_store.specs.Store.{PairStands, PairStandsWithGate}

module _ {H : Type 0} (h : Ghosts H) (store : OpenSide) (host : H) (payloads : List (List ℕ)) (l r : List ℕ) (left : h.images host Left l) (right : h.images host Right r) where
  image_on : (side : Side) → h.images host side (on side l r)
  image_on Left = left
  image_on Right = right

  here_is : PairStands h store host payloads → on store.side l r ≡ h.reads host store.side
  here_is stands = stands.side.only (on store.side l r) (image_on store.side)

  counts : PairStands h store host payloads → Counts payloads (on store.side l r) (on (other store.side) l r)
  counts stands = record {
    generation = store.generation;
    side = subst (IsOpen store.generation payloads) (sym (here_is stands)) stands.side.side;
    some = stands.some;
    rest = inl (subst IsShut (sym (stands.only (on (other store.side) l r) (image_on (other store.side)))) stands.shut);
  }

  -- each pair of images has them
  pub each_has_list : PairStands h store host payloads → HasList l r payloads
  each_has_list stands = (store.side, counts stands)

  -- and a byte at the gate that ends them
  pub each_has_kept_list : PairStandsWithGate h store host payloads → HasKeptList l r payloads
  each_has_kept_list gated = (
    store.side,
    counts gated.stands,
    subst (λ (c : List ℕ). place_of payloads < length c) (sym (here_is gated.stands)) (omega (arith, gated.gate, gated.stands.side.place)),
  )
