-- What a host holds on which a store is open.
use Rattle.std.proofs.Common.{◌≡◌, inl, inr, ℕ, ◌<◌, List, [], length, refl, sym, ◌∙◌, ap, subst, arith}
use Rattle.host_model.specs.declared.host.Host.{Ghosts}
use Rattle.host_model.specs.declared.side.Side.{Side}
use Rattle.host_model.specs.declared.side.Side.TheVariants.{Left, Right}
use Rattle.host_model.specs.Hosts.{IsDurable, MeetsAll}
use Rattle.host_model.specs.Moments.{KeepsSide}
use Rattle.host_model.specs.Sides.{other, on}
use Rattle.host_model.proofs.Meeting.{met_weaker}
use Rattle.gate_journal.specs.OpenSide.{OpenSide}
use Rattle.gate_journal.specs.Records.{place_of, IsOpen, IsShut}
use Rattle.gate_journal.proofs.Unique.{one_reading}
use Rattle.pair_store.specs.Pair.{Counts, HasKeptList}
use Rattle.pair_store.specs.Store.{PairStands, PairStandsWithGate}
use Rattle.pair_store.proofs.Beside.{both_sides, on_of}
use Rattle.pair_store.proofs.Standing.{each_has_list, each_has_kept_list}
use Rattle.pair_store.proofs.Unique.{not_both_count}
use Rattle.row_store.specs.Folding.{Fold}
use Rattle.row_store.specs.Moments.{KeepsEitherRows}
use Rattle.row_store.specs.Rows.{HasRows, HasKeptRows}
use Rattle.row_store.specs.Store.{StoredRows, RowsStand, RowsStandWithGate}
use Rattle.client_state.specs.declared.client_state.ClientState.{ClientState}
use Rattle.client_state.specs.Forms.{IsForm}
use Rattle.client_state.specs.Sound.{IsSound}
use Rattle.client_state.specs.Encoding.{rows_of}
use Rattle.client_store.specs.Moments.{WhileWritten}
use Rattle.client_store.specs.OpenStore.{end_of, IsOpenOn, HasGateOn, AreDurable, AllKept, AllStand}
use Rattle.client_store.specs.Store.{StandsFor, KeptFor}
use Rattle.client_store.specs.Stored.{StoredState, IsSameStored}

pub stands_of_kept : (l r : List ℕ) (s : ClientState) → KeptFor l r s → StandsFor l r s
stands_of_kept l r s kept = record { sound = kept.sound; stored = kept.stored; form = kept.form; rows = (kept.rows.0, (kept.rows.1.0, kept.rows.1.1), kept.rows.2) }

-- ---- rows that stand

module _ {H : Type 0} (h : Ghosts H) (store : StoredRows) (host : H) where
  pub rows_settled : RowsStand h store host → AreDurable h host
  rows_settled stands = both_sides (λ (side : Side). IsDurable h host side) store.records.side stands.pair.side.only stands.pair.only

  pub ungated : RowsStandWithGate h store host → RowsStand h store host
  ungated gated = record { payloads = gated.payloads; pair = gated.pair.stands; made = gated.made }

  pub rows_read : RowsStand h store host → (l r : List ℕ) → h.images host Left l → h.images host Right r → HasRows l r store.rows
  rows_read stands l r left right = (stands.payloads, each_has_list h store.records host stands.payloads l r left right stands.pair, stands.made)

  pub rows_kept_read : RowsStandWithGate h store host → (l r : List ℕ) → h.images host Left l → h.images host Right r → HasKeptRows l r store.rows
  rows_kept_read gated l r left right = (gated.payloads, each_has_kept_list h store.records host gated.payloads l r left right gated.pair, gated.made)

  module _ (s : ClientState) (sound : IsSound s) (form : IsForm s store.rows) where
    pub rows_stand : RowsStand h store host → AllStand h host s
    rows_stand stands l r left right = record {
      sound = sound;
      stored = store.rows;
      form = form;
      rows = rows_read stands l r left right;
    }

    pub rows_kept : RowsStandWithGate h store host → AllKept h host s
    rows_kept gated l r left right = record {
      sound = sound;
      stored = store.rows;
      form = form;
      rows = rows_kept_read gated l r left right;
    }

  -- the same rows at the same place stand too
  module _ (other : StoredRows) (records : other.records ≡ store.records) (rows : other.rows ≡ store.rows) where
    pub stand_again : RowsStand h store host → RowsStand h other host
    stand_again stands = record {
      payloads = stands.payloads;
      pair = subst (λ (side : OpenSide). PairStands h side host stands.payloads) (sym records) stands.pair;
      made = subst (Fold stands.payloads []) (sym rows) stands.made;
    }

    pub gated_again : RowsStandWithGate h store host → RowsStandWithGate h other host
    gated_again gated = record {
      payloads = gated.payloads;
      pair = subst (λ (side : OpenSide). PairStandsWithGate h side host gated.payloads) (sym records) gated.pair;
      made = subst (Fold gated.payloads []) (sym rows) gated.made;
    }

-- ---- the gate

gate_at : (side side_of_kept : Side) (l r : List ℕ) (payloads others : List (List ℕ)) → Counts payloads (on side l r) (on (other side) l r) → Counts others (on side_of_kept l r) (on (other side_of_kept) l r)
    → place_of others < length (on side_of_kept l r) → place_of payloads < length (on side l r)
gate_at Left Left l r payloads others counts kept gate = subst (λ (ps : List (List ℕ)). place_of ps < length l) (one_reading kept.generation counts.generation others payloads l kept.side counts.side).1 gate
gate_at Right Right l r payloads others counts kept gate = subst (λ (ps : List (List ℕ)). place_of ps < length r) (one_reading kept.generation counts.generation others payloads r kept.side counts.side).1 gate
gate_at Left Right l r payloads others counts kept gate = absurd (not_both_count payloads others l r counts kept)
gate_at Right Left l r payloads others counts kept gate = absurd (not_both_count payloads others r l counts kept)

-- what reads give counts for the payloads that stand
counts_of : {H : Type 0} (h : Ghosts H) (records : OpenSide) (host : H) (payloads : List (List ℕ)) → PairStands h records host payloads
    → Counts payloads (on records.side (h.reads host Left) (h.reads host Right)) (on (other records.side) (h.reads host Left) (h.reads host Right))
counts_of h records host payloads pair = record {
  generation = records.generation;
  side = subst (IsOpen records.generation payloads) (sym (on_of (h.reads host) records.side)) pair.side.side;
  some = pair.some;
  rest = inl (subst IsShut (sym (on_of (h.reads host) (other records.side))) pair.shut);
}

-- what reads give has a byte at its gate, where it is kept for a state
module _ {H : Type 0} (h : Ghosts H) (store : StoredRows) (host : H) (left : h.images host Left (h.reads host Left)) (right : h.images host Right (h.reads host Right)) (stands : RowsStand h store host) where
  rows_gated : (others : List (List ℕ)) → HasKeptList (h.reads host Left) (h.reads host Right) others → RowsStandWithGate h store host
  rows_gated others kept =
      let l = h.reads host Left in
      let r = h.reads host Right in
      let counts = counts_of h store.records host stands.payloads stands.pair in
      let at : place_of stands.payloads < length (h.reads host store.records.side) =
      subst (λ (c : List ℕ). place_of stands.payloads < length c) (on_of (h.reads host) store.records.side) (gate_at store.records.side kept.0 l r stands.payloads others counts kept.1 kept.2) in
      record {
        payloads = stands.payloads;
        pair = record { stands = stands.pair; gate = omega (arith, at, stands.pair.side.place) };
        made = stands.made;
      }

-- ---- a store

module _ {H : Type 0} (h : Ghosts H) (store : StoredState) (host : H) (open_on : IsOpenOn h store host) where
  pub all_stand : AllStand h host store.state
  all_stand = rows_stand h store.rows host store.state open_on.stored.sound (inl open_on.stored.same) open_on.stands

  pub all_kept : HasGateOn h store host → AllKept h host store.state
  all_kept gated = rows_kept h store.rows host store.state open_on.stored.sound (inl open_on.stored.same) gated

  pub settled : AreDurable h host
  settled = rows_settled h store.rows host open_on.stands

  -- each image has the rows of the state
  pub has_rows : (l r : List ℕ) → h.images host Left l → h.images host Right r → HasRows l r (rows_of store.state)
  has_rows l r left right = subst (HasRows l r) open_on.stored.same (rows_read h store.rows host open_on.stands l r left right)

  pub has_kept_rows : HasGateOn h store host → (l r : List ℕ) → h.images host Left l → h.images host Right r → HasKeptRows l r (rows_of store.state)
  has_kept_rows gated l r left right = subst (HasKeptRows l r) open_on.stored.same (rows_kept_read h store.rows host gated l r left right)

-- and one with the same rows
module _ (old new : StoredState) (same : IsSameStored old new) where
  pub end_again : end_of new ≡ end_of old
  end_again = ap (λ (side : OpenSide). side.place) same.records

  module _ {H : Type 0} (h : Ghosts H) (host : H) where
    pub open_again : IsOpenOn h old host → IsOpenOn h new host
    open_again open_on = record {
      stored = record {
        sound = subst IsSound (sym same.state) open_on.stored.sound;
        same = same.rows ∙ open_on.stored.same ∙ ap rows_of (sym same.state);
      };
      stands = stand_again h old.rows host new.rows same.records same.rows open_on.stands;
    }

    pub gate_again : HasGateOn h old host → HasGateOn h new host
    gate_again gated = gated_again h old.rows host new.rows same.records same.rows gated

-- ---- what is met

-- a change of rows, seen as one of states
pub while_written : {H : Type 0} (h : Ghosts H) (start new : H) (s t : ClientState) → IsSound s → IsSound t → MeetsAll h start new (KeepsEitherRows h start (rows_of s) (rows_of t))
    → MeetsAll h start new (WhileWritten (h.said start) s t)
while_written h start new s t s_sound t_sound run =
    met_weaker h.moment h.might start new _ _ run (λ l r u met. (
      elim met.0 [
        | inl kept ↦ inl (record { sound = s_sound; stored = rows_of s; form = inl refl; rows = kept })
        | inr kept ↦ inr (record { sound = t_sound; stored = rows_of t; form = inl refl; rows = kept })
      ],
      met.1,
    ))

-- ---- saying changes nothing on the sides

module _ {H : Type 0} (h : Ghosts H) (mid new : H) (still : (side : Side) → KeepsSide h.reads h.images side mid new) where
  durable_said : (side : Side) → IsDurable h mid side → IsDurable h new side
  durable_said side only c image = only c (((still side).images_same c).0 image) ∙ sym (still side).reads_same

  pair_said : (records : OpenSide) (payloads : List (List ℕ)) → PairStands h records mid payloads → PairStands h records new payloads
  pair_said records payloads pair = record {
    side = record {
      side = subst (IsOpen records.generation payloads) (sym (still records.side).reads_same) pair.side.side;
      place = pair.side.place;
      only = durable_said records.side pair.side.only;
    };
    some = pair.some;
    shut = subst IsShut (sym (still (other records.side)).reads_same) pair.shut;
    only = durable_said (other records.side) pair.only;
  }

  pub open_said : (store : StoredState) → IsOpenOn h store mid → IsOpenOn h store new
  open_said store open_on = record {
    stored = open_on.stored;
    stands = record { payloads = open_on.stands.payloads; pair = pair_said store.rows.records open_on.stands.payloads open_on.stands.pair; made = open_on.stands.made };
  }

  pub gate_said : (store : StoredState) → HasGateOn h store mid → HasGateOn h store new
  gate_said store gated = record {
    payloads = gated.payloads;
    pair = record {
      stands = pair_said store.rows.records gated.payloads gated.pair.stands;
      gate = subst (λ (c : List ℕ). store.rows.records.place < length c) (sym (still store.rows.records.side).reads_same) gated.pair.gate;
    };
    made = gated.made;
  }

  pub kept_said : (s : ClientState) → AllKept h mid s → AllKept h new s
  kept_said s kept l r left right = kept l r (((still Left).images_same l).0 left) (((still Right).images_same r).0 right)
