-- What is met while a pair is opened, and what it stands for then.
use Rattle.std.proofs.Common.{◌≡◌, ◌≢◌, inl, inr, ◌<◌, ◌≤◌, ◌+◌, ℕ, Bool, true, false, if◌then◌else◌, nat_eq, List, [], ◌∷◌, length, drop, Result, Err, IsErr, IsErrOf, refl, sym, ◌∙◌, ap, subst, arith}
use Rattle.std.proofs.lemmas.Bool.Decides.{eqb_tells}
use Rattle.std.proofs.lemmas.Result.{IfOk-from_err}
use Rattle.host_model.specs.declared.host.Host.{Ghosts}
use Rattle.host_model.specs.declared.side.Side.{Side}
use Rattle.host_model.specs.declared.side.Side.TheVariants.{Left, Right}
use Rattle.host_model.specs.Hosts.{IsDurable, KeepsAll, MeetsAll, NowOf, OnSideOf}
use Rattle.host_model.specs.Sides.{other, on}
use Rattle.host_model.proofs.Meeting.{met_weaker, turned, kept_turned}
use Rattle.gate_journal.specs.Journal.{SameButFirst}
use Rattle.gate_journal.specs.OpenSide.{OpenSide}
use Rattle.gate_journal.specs.Records.{place_of, IsClosed, IsOpen, IsShut, HasZeroFirst}
use Rattle.pair_store.specs.declared.faults.PairFault.{PairFault}
use Rattle.pair_store.specs.declared.faults.PairFault.TheVariants.{NoStore, BadStore, DiskFault, OutOfMemory}
use Rattle.pair_store.specs.declared.records.Choice.{Choice}
use Rattle.pair_store.specs.Choice.{payloads_of, IsAnswer, IsBeside, IsChoice}
use Rattle.pair_store.specs.Moments.{IsReadOrRepaired, OpensInTwoPhases}
use Rattle.pair_store.specs.Pair.{HasList, HasKeptList, HasNoStore, IsBad, IsEarlier}
use Rattle.pair_store.specs.Repair.{starts_open, repair_cost, shut_first, IsRepaired, IsLeftByOpening, MayBeShut, shut_where}
use Rattle.pair_store.specs.Store.{PairStands, PairStandsWithGate}
use Rattle.gate_journal.specs.Costs.{HasCost}
use Rattle.pair_store.proofs.Beside.{both_sides, on_of}
use Rattle.pair_store.proofs.Choosing.{choice_list, list_is_store}
use Rattle.pair_store.proofs.Gates.{beside_sum, choice_gate}
use Rattle.pair_store.proofs.Turning.{first_open}

-- the first byte of an open side, and of a closed one
open_starts : (generation : ℕ) (payloads : List (List ℕ)) (image : List ℕ) → IsOpen generation payloads image → starts_open image ≡ true
open_starts generation payloads image side = ap starts_open side.bytes

not_one : (first : ℕ) → first ≢ 1 → nat_eq first 1 ≡ false
not_one first shut = elim (eqb_tells first 1) [ inl same ↦ absurd (shut same.1) | inr differs ↦ differs.0 ]

shut_starts : (image : List ℕ) → IsShut image → starts_open image ≡ false
shut_starts [] shut = absurd shut
shut_starts (first ∷ rest) shut = not_one first shut

open_shut : (generation : ℕ) (payloads : List (List ℕ)) (image : List ℕ) → IsOpen generation payloads image → shut_first image ≡ 0 ∷ drop 1 image
open_shut generation payloads image side = ap shut_first side.bytes ∙ ap (λ (l : List ℕ). 0 ∷ drop 1 l) (sym side.bytes)

shut_same : (image : List ℕ) → IsShut image → shut_first image ≡ image
shut_same [] shut = absurd shut
shut_same (first ∷ rest) shut = ap (λ (b : Bool). (if b then 0 else first) ∷ rest) (not_one first shut)

beside_starts : (is_open : Bool) (generation : ℕ) (image : List ℕ) → IsBeside is_open generation image → starts_open image ≡ is_open
beside_starts true generation image earlier = open_starts earlier.before earlier.payloads image earlier.side
beside_starts false generation image shut = shut_starts image shut

-- one byte where the other side is open too
pub cost_is : (side : Side) (l r : List ℕ) (generation : ℕ) (payloads : List (List ℕ)) (is_open : Bool) → IsOpen generation payloads (on side l r) → IsBeside is_open generation (on (other side) l r)
    → repair_cost l r ≡ (if is_open then 1 else 0)
cost_is Left l r generation payloads is_open here rest =
    ap (λ (b : Bool). if b then (if starts_open r then 1 else 0) else 0) (open_starts generation payloads l here) ∙ ap (λ (b : Bool). if b then 1 else 0) (beside_starts is_open generation r rest)
cost_is Right l r generation payloads is_open here rest =
    ap (λ (b : Bool). if starts_open l then (if b then 1 else 0) else 0) (open_starts generation payloads r here) ∙ ap (λ (b : Bool). if b then 1 else 0) (beside_starts is_open generation l rest)

-- what is left of the other side
module _ (generation : ℕ) (was mid new : List ℕ) (same : mid ≡ was) where
  shut_there : (is_open : Bool) → IsBeside is_open generation was → new ≡ shut_where is_open mid → IsShut new
  shut_there true earlier is = subst IsShut (sym is) (omega arith)
  shut_there false shut is = subst IsShut (sym (is ∙ same)) shut

  pub first_shut : (is_open : Bool) → IsBeside is_open generation was → new ≡ shut_where is_open mid → new ≡ shut_first was
  first_shut true earlier is = is ∙ ap (λ (l : List ℕ). 0 ∷ drop 1 l) same ∙ sym (open_shut earlier.before earlier.payloads was earlier.side)
  first_shut false shut is = is ∙ same ∙ sym (shut_same was shut)

-- both sides are read, and the other one is closed where it is open
module _ {H : Type 0} (h : Ghosts H) (side : Side) (generation : ℕ) (payloads : List (List ℕ)) (start mid new : H)
    (here : IsOpen generation payloads (h.reads start side))
    (same : (s : Side) → h.reads mid s ≡ h.reads start s) (durable : (s : Side) → IsDurable h mid s) where
  is_read : (s : Side) (c : List ℕ) → h.images mid s c → c ≡ h.reads start s
  is_read s c left = durable s c left ∙ same s

  repaired_by : 0 < length payloads → (l r : List ℕ) → IsEarlier generation (h.reads start (other side)) → on side l r ≡ h.reads start side
      → (byte : ℕ) × (on (other side) l r ≡ byte ∷ drop 1 (h.reads start (other side))) → IsRepaired h start l r
  repaired_by some l r earlier this there = record { side = side; generation = generation; payloads = payloads; later = here; some = some; earlier = earlier; here = this; there = there }

  module _ (text : h.said mid ≡ h.said start) where
    while_read : 0 < length payloads → (is_open : Bool) → IsBeside is_open generation (h.reads start (other side)) → (l r u : List ℕ)
        → OnSideOf h mid (other side) (MayBeShut is_open (h.images mid (other side))) l r u → IsReadOrRepaired h start l r u
    while_read some false shut l r u met =
        let seen = turned h.images h.said mid side (h.images mid (other side)) l r u met in
        (inl (both_sides (λ s. on s l r ≡ h.reads start s) side (is_read side (on side l r) seen.0) (is_read (other side) (on (other side) l r) seen.1)), seen.2 ∙ text)
    while_read some true earlier l r u met =
        let seen = turned h.images h.said mid side (SameButFirst (h.images mid (other side))) l r u met in
        let old = seen.1.0 in
        let was : old ≡ h.reads start (other side) = is_read (other side) old seen.1.1 in
        let there : (byte : ℕ) × (on (other side) l r ≡ byte ∷ drop 1 (h.reads start (other side))) = elim seen.1.2 [
          | inl is ↦ (1, is ∙ was ∙ sym (first_open earlier.before earlier.payloads (h.reads start (other side)) earlier.side))
          | inr first ↦ (first.0, first.1 ∙ ap (λ (c : List ℕ). first.0 ∷ drop 1 c) was)
        ] in
        (inr (repaired_by some l r earlier (is_read side (on side l r) seen.0) there), seen.2 ∙ text)

    pub read_met : 0 < length payloads → (is_open : Bool) → IsBeside is_open generation (h.reads start (other side))
        → MeetsAll h mid new (OnSideOf h mid (other side) (MayBeShut is_open (h.images mid (other side)))) → MeetsAll h mid new (IsReadOrRepaired h start)
    read_met some is_open rest run = met_weaker h.moment h.might mid new _ _ run (while_read some is_open rest)

  -- and then it stands for its payloads
  module _ (kept : KeepsAll h (other (other side)) mid new) where
    pub reads_here : h.reads new side ≡ h.reads start side
    reads_here = (kept_turned h.reads h.images h.said side mid new kept).reads_same ∙ same side

    only_here : IsDurable h new side
    only_here c left =
        let back = kept_turned h.reads h.images h.said side mid new kept in
        durable side c ((back.images_same c).0 left) ∙ sym back.reads_same

    -- what is left of both sides
    pub left_by : 0 < length payloads → (is_open : Bool) → IsBeside is_open generation (h.reads start (other side)) → h.reads new (other side) ≡ shut_where is_open (h.reads mid (other side)) → IsDurable h new (other side)
        → IsLeftByOpening h start new
    unfolding repaired_by
    left_by some false shut is only = record {
      durable = both_sides (λ s. IsDurable h new s) side only_here only;
      bytes = inl (both_sides (λ s. h.reads new s ≡ h.reads start s) side reads_here (is ∙ same (other side)));
    }
    left_by some true earlier is only =
        let there : h.reads new (other side) ≡ 0 ∷ drop 1 (h.reads start (other side)) = is ∙ ap (λ (c : List ℕ). 0 ∷ drop 1 c) (same (other side)) in
        record {
          durable = both_sides (λ s. IsDurable h new s) side only_here only;
          bytes = inr (record {
            repaired = repaired_by some (h.reads new Left) (h.reads new Right) earlier (on_of (h.reads new) side ∙ reads_here) (0, on_of (h.reads new) (other side) ∙ there);
            zero = subst HasZeroFirst (sym there) refl;
          });
        }

    pub opened_pair : (store : OpenSide) → side ≡ store.side → store.generation ≡ generation → store.place ≡ place_of payloads → 0 < length payloads
        → (is_open : Bool) → IsBeside is_open generation (h.reads start (other side))
        → h.reads new (other side) ≡ shut_where is_open (h.reads mid (other side)) → IsDurable h new (other side) → PairStands h store new payloads
    opened_pair store of_side of_generation place some is_open rest is only = record {
      side = record {
        side = subst (λ (g : ℕ). IsOpen g payloads (h.reads new store.side)) (sym of_generation)
            (subst (λ (s : Side). IsOpen generation payloads (h.reads new s)) of_side (subst (IsOpen generation payloads) (sym reads_here) here));
        place = place;
        only = subst (λ (s : Side). IsDurable h new s) of_side only_here;
      };
      some = some;
      shut = subst (λ (s : Side). IsShut (h.reads new (other s))) of_side
          (shut_there generation (h.reads start (other side)) (h.reads mid (other side)) (h.reads new (other side)) (same (other side)) is_open rest is);
      only = subst (λ (s : Side). IsDurable h new (other s)) of_side only;
    }

-- what an answer says of the pair
module _ (l r : List ℕ) where
  pub answer_list : (choice : Choice) → IsChoice l r choice → HasList l r (payloads_of choice.records)
  answer_list choice is = choice_list l r choice.records.side choice.records.journal.generation (payloads_of choice.records) is.read.open_with is.some
      (beside_sum choice.is_other_open choice.records.journal.generation (on (other choice.records.side) l r) is.rest)

  pub choice_is_store : (choice : Choice) → IsChoice l r choice → HasNoStore l r → ⊥
  choice_is_store choice is = list_is_store l r (payloads_of choice.records) (answer_list choice is)

  pub choice_not_bad : (choice : Choice) → IsChoice l r choice → IsBad l r → ⊥
  choice_not_bad choice is bad = bad.no_list (payloads_of choice.records) (answer_list choice is)

  pub refused_no_list : (e : PairFault) → IsAnswer l r (Err e) → (payloads : List (List ℕ)) → HasList l r payloads → ⊥
  refused_no_list NoStore none payloads has = list_is_store l r payloads has none
  refused_no_list BadStore bad payloads has = bad.no_list payloads has
  refused_no_list DiskFault is payloads has = is
  refused_no_list OutOfMemory is payloads has = is

  pub refused_closed : (e : PairFault) → IsAnswer l r (Err e) → HasNoStore l r → e ≡ NoStore
  refused_closed NoStore none closed = refl
  refused_closed BadStore bad closed = absurd (bad.open_side closed)
  refused_closed DiskFault is closed = absurd is
  refused_closed OutOfMemory is closed = absurd is

  pub refused_bad : (e : PairFault) → IsAnswer l r (Err e) → IsBad l r → e ≡ BadStore
  refused_bad NoStore none bad = absurd (bad.open_side none)
  refused_bad BadStore is bad = refl
  refused_bad DiskFault is bad = absurd is
  refused_bad OutOfMemory is bad = absurd is

  pub refused_no_fault : (e : PairFault) → IsAnswer l r (Err e) → e ≡ DiskFault → ⊥
  refused_no_fault NoStore none same = cc
  refused_no_fault BadStore bad same = cc
  refused_no_fault DiskFault is same = is
  refused_no_fault OutOfMemory is same = is

-- the same of a choice, by the names that its parts have
module _ {H : Type 0} (h : Ghosts H) (choice : Choice) (there : Side) (start mid new : H) (is : IsChoice (h.reads start Left) (h.reads start Right) choice) (is_there : there ≡ other choice.records.side)
    (same : (s : Side) → h.reads mid s ≡ h.reads start s) (durable : (s : Side) → IsDurable h mid s) where
  here : IsOpen choice.records.journal.generation (payloads_of choice.records) (h.reads start choice.records.side)
  here = subst (IsOpen choice.records.journal.generation (payloads_of choice.records)) (on_of (h.reads start) choice.records.side) is.read.open_with

  beside : IsBeside choice.is_other_open choice.records.journal.generation (h.reads start (other choice.records.side))
  beside = subst (IsBeside choice.is_other_open choice.records.journal.generation) (on_of (h.reads start) (other choice.records.side)) is.rest

  pub choice_phases : h.said mid ≡ h.said start → h.written mid ≡ h.written start → MeetsAll h start mid (NowOf h start)
      → MeetsAll h mid new (OnSideOf h mid there (MayBeShut choice.is_other_open (h.images mid there))) → OpensInTwoPhases h start new
  choice_phases text cost first second = record {
    synced = mid;
    first = first;
    unwritten = record { same = same; durable = durable; cost = cost };
    second = read_met h choice.records.side choice.records.journal.generation (payloads_of choice.records) start mid new here same durable text is.some choice.is_other_open beside
        (subst (λ (s : Side). MeetsAll h mid new (OnSideOf h mid s (MayBeShut choice.is_other_open (h.images mid s)))) is_there second);
  }

  pub choice_left : KeepsAll h (other there) mid new → h.reads new there ≡ shut_where choice.is_other_open (h.reads mid there) → IsDurable h new there → IsLeftByOpening h start new
  choice_left kept left only = left_by h choice.records.side choice.records.journal.generation (payloads_of choice.records) start mid new here same durable
      (subst (λ (s : Side). KeepsAll h (other s) mid new) is_there kept) is.some choice.is_other_open beside
      (subst (λ (s : Side). h.reads new s ≡ shut_where choice.is_other_open (h.reads mid s)) is_there left) (subst (λ (s : Side). IsDurable h new s) is_there only)

  pub choice_pair : KeepsAll h (other there) mid new → h.reads new there ≡ shut_where choice.is_other_open (h.reads mid there) → IsDurable h new there
      → PairStands h choice.records.journal new (payloads_of choice.records)
  choice_pair kept left only = opened_pair h choice.records.side choice.records.journal.generation (payloads_of choice.records) start mid new here same durable
      (subst (λ (s : Side). KeepsAll h (other s) mid new) is_there kept) choice.records.journal choice.records.of_side refl is.read.place is.some choice.is_other_open beside
      (subst (λ (s : Side). h.reads new s ≡ shut_where choice.is_other_open (h.reads mid s)) is_there left) (subst (λ (s : Side). IsDurable h new s) is_there only)

  pub choice_with_gate : KeepsAll h (other there) mid new → PairStands h choice.records.journal new (payloads_of choice.records)
      → (payloads : List (List ℕ)) → HasKeptList (h.reads start Left) (h.reads start Right) payloads → PairStandsWithGate h choice.records.journal new payloads
  choice_with_gate kept stands payloads has =
      let found = choice_gate (h.reads start Left) (h.reads start Right) choice is payloads has in
      let before : choice.records.journal.place < length (h.reads start choice.records.side) =
      subst (λ (image : List ℕ). choice.records.journal.place < length image) (on_of (h.reads start) choice.records.side) found.1 in
      let same_there = reads_here h choice.records.side choice.records.journal.generation (payloads_of choice.records) start mid new here same durable
      (subst (λ (s : Side). KeepsAll h (other s) mid new) is_there kept) in
      let after : choice.records.journal.place < length (h.reads new choice.records.side) =
      subst (λ (image : List ℕ). choice.records.journal.place < length image) (sym same_there) before in
      record {
        stands = subst (λ (list : List (List ℕ)). PairStands h choice.records.journal new list) found.0 stands;
        gate = subst (λ (s : Side). choice.records.journal.place < length (h.reads new s)) choice.records.of_side after;
      }

  pub choice_shut : h.reads new there ≡ shut_where choice.is_other_open (h.reads mid there) → h.reads new (other choice.records.journal.side) ≡ shut_first (h.reads start (other choice.records.journal.side))
  choice_shut left = subst (λ (s : Side). h.reads new (other s) ≡ shut_first (h.reads start (other s))) choice.records.of_side
      (first_shut choice.records.journal.generation (h.reads start (other choice.records.side)) (h.reads mid (other choice.records.side)) (h.reads new (other choice.records.side))
      (same (other choice.records.side)) choice.is_other_open beside (subst (λ (s : Side). h.reads new s ≡ shut_where choice.is_other_open (h.reads mid s)) is_there left))

-- where neither side is open, no image of them is
pub closed_image : (reads : Side → List ℕ) (side : Side) (image : List ℕ) → HasNoStore (reads Left) (reads Right) → image ≡ reads side → IsClosed image
closed_image reads Left image closed is = subst IsClosed (sym is) closed.0
closed_image reads Right image closed is = subst IsClosed (sym is) closed.1

-- what it writes
pub choice_cost : (l r : List ℕ) (choice : Choice) → IsChoice l r choice → repair_cost l r ≡ (if choice.is_other_open then 1 else 0)
choice_cost l r choice is = cost_is choice.records.side l r choice.records.journal.generation (payloads_of choice.records) choice.is_other_open is.read.open_with is.rest

pub cost_at_err : {T E : Type 0} (bytes before now : ℕ) (result : Result T E) → IsErr result → before ≤ now → now ≤ before + bytes → HasCost bytes before now result
cost_at_err bytes before now result failed least most = record { exact = IfOk-from_err result (λ _. now ≡ before + bytes) failed; least = least; most = most }

-- an error that is passed on
pub passed_on : {T : Type 0} (result : Result T PairFault) (e f : PairFault) → result ≡ Err e → e ≡ f → IsErrOf result f
passed_on result e f is same = is ∙ ap (λ (x : PairFault). Err x) same

pub came_from : {T : Type 0} (result : Result T PairFault) (e f : PairFault) → result ≡ Err e → IsErrOf result f → e ≡ f
came_from result e f is other_is = cc
