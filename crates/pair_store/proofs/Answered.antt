-- What an opening says of the pair that it has read, by its answer.
use Rattle.std.proofs.Common.{◌≡◌, List, ℕ, Result, Err, IsErrOf, sym, subst}
use Rattle.host_model.specs.declared.host.Host.{Ghosts}
use Rattle.host_model.specs.declared.side.Side.{Side}
use Rattle.host_model.specs.declared.side.Side.TheVariants.{Left, Right}
use Rattle.host_model.specs.Hosts.{IsDurable, KeepsAll}
use Rattle.host_model.specs.Sides.{other}
use Rattle.gate_journal.specs.OpenSide.{OpenSide}
use Rattle.pair_store.specs.declared.faults.PairFault.{PairFault}
use Rattle.pair_store.specs.declared.faults.PairFault.TheVariants.{NoStore, BadStore}
use Rattle.pair_store.specs.declared.records.Choice.{Choice}
use Rattle.pair_store.specs.Choice.{payloads_of, IsAnswer, IsChoice}
use Rattle.pair_store.specs.Pair.{HasList, HasKeptList, HasNoStore, IsBad}
use Rattle.pair_store.specs.Repair.{shut_first, shut_where, IsLeftByOpening}
use Rattle.pair_store.specs.Store.{PairStands, PairStandsWithGate}
use Rattle.pair_store.proofs.Opening.{refused_no_list, refused_closed, refused_bad, passed_on, came_from, answer_list, choice_pair, choice_with_gate, choice_shut, choice_left}

-- it is refused
pub record IsRefused {T : Type 0} (l r : List ℕ) (result : Result T PairFault) : Type 0 where
  pub no_list : (payloads : List (List ℕ)) → HasList l r payloads → ⊥
  pub no_store : IsErrOf result NoStore → HasNoStore l r
  pub no_store_where : HasNoStore l r → IsErrOf result NoStore
  pub bad_store : IsErrOf result BadStore → IsBad l r
  pub bad_store_where : IsBad l r → IsErrOf result BadStore

pub refused : {T : Type 0} (l r : List ℕ) (result : Result T PairFault) (e : PairFault) → result ≡ Err e → IsAnswer l r (Err e) → IsRefused l r result
refused l r result e is answer = record {
  no_list = refused_no_list l r e answer;
  no_store = λ none. subst (λ (f : PairFault). IsAnswer l r (Err f)) (came_from result e NoStore is none) answer;
  no_store_where = λ closed. passed_on result e NoStore is (refused_closed l r e answer closed);
  bad_store = λ bad. subst (λ (f : PairFault). IsAnswer l r (Err f)) (came_from result e BadStore is bad) answer;
  bad_store_where = λ bad. passed_on result e BadStore is (refused_bad l r e answer bad);
}

-- it is opened
pub record IsOpened {H : Type 0} (h : Ghosts H) (start new : H) (store : OpenSide) (payloads : List (List ℕ)) : Type 0 where
  pub list : HasList (h.reads start Left) (h.reads start Right) payloads
  pub stands : PairStands h store new payloads
  pub gate : (kept : List (List ℕ)) → HasKeptList (h.reads start Left) (h.reads start Right) kept → PairStandsWithGate h store new kept
  pub shut : h.reads new (other store.side) ≡ shut_first (h.reads start (other store.side))
  pub left : IsLeftByOpening h start new

pub opened : {H : Type 0} (h : Ghosts H) (choice : Choice) (there : Side) (start mid new : H) (is : IsChoice (h.reads start Left) (h.reads start Right) choice) → there ≡ other choice.records.side
    → ((s : Side) → h.reads mid s ≡ h.reads start s) → ((s : Side) → IsDurable h mid s)
    → KeepsAll h (other there) mid new → h.reads new there ≡ shut_where choice.is_other_open (h.reads mid there) → IsDurable h new there
    → (store : OpenSide) (payloads : List (List ℕ)) → store ≡ choice.records.journal → payloads ≡ payloads_of choice.records → IsOpened h start new store payloads
opened h choice there start mid new is is_there same durable kept shut only store payloads store_is payloads_are =
    let stands = choice_pair h choice there start mid new is is_there same durable kept shut only in
    let found : IsOpened h start new choice.records.journal (payloads_of choice.records) = record {
      list = answer_list (h.reads start Left) (h.reads start Right) choice is;
      stands = stands;
      gate = choice_with_gate h choice there start mid new is is_there same durable kept stands;
      shut = choice_shut h choice there start mid new is is_there same durable shut;
      left = choice_left h choice there start mid new is is_there same durable kept shut only;
    } in
    subst (λ (p : List (List ℕ)). IsOpened h start new store p) (sym payloads_are) (subst (λ (s : OpenSide). IsOpened h start new s (payloads_of choice.records)) (sym store_is) found)
