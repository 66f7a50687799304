-- A store is made behind an opening that found none.
use Rattle.std.proofs.Common.{◌≡◌, inl, inr, List, ℕ, None, Some, Result, Ok, Err, refl, sym, subst}
use Rattle.std.specs.Prelude.{IfOk, IsErrOf}
use Rattle.host_model.specs.declared.host.Host.{Ghosts}
use Rattle.host_model.specs.declared.side.Side.TheVariants.{Left, Right}
use Rattle.host_model.specs.Hosts.{MeetsAll}
use Rattle.pair_store.specs.declared.faults.PairFault.{PairFault}
use Rattle.pair_store.specs.declared.faults.PairFault.TheVariants as opening
use Rattle.pair_store.specs.Moments.{IsOnlyRead, IsMaking, OpensInPhases}
use Rattle.pair_store.specs.Pair.{HasNoList}
use Rattle.pair_store.specs.Repair.{IsUnwritten}
use Rattle.pair_store.proofs.Choosing.{list_is_store}
use Rattle.row_store.specs.Rows.{HasRows}
use Rattle.client_state.specs.declared.client_state.ClientState.{ClientState}
use Rattle.client_state.specs.Encoding.{encoding}
use Rattle.client_store.specs.declared.faults.MakeFault.{MakeFault}
use Rattle.client_store.specs.declared.faults.MakeFault.TheVariants as making
use Rattle.client_store.specs.declared.found_store.FoundStore.{FoundStore}
use Rattle.client_store.specs.Faults.{refusal}
use Rattle.client_store.specs.Finds.{MakeFinds}
use Rattle.client_store.specs.Makings.{MakePhases}
use Rattle.client_store.specs.Store.{IsAbsent, IsBad}
use Rattle.client_store.specs.Stored.{IsFound}

-- ---- what the opening before has answered

pub not_refused : (found : Result FoundStore PairFault) → refusal found ≡ None → IsErrOf found opening.NoStore
not_refused (Ok store) none = absurd cc
not_refused (Err opening.NoStore) none = refl
not_refused (Err opening.BadStore) none = absurd cc
not_refused (Err opening.DiskFault) none = absurd cc
not_refused (Err opening.OutOfMemory) none = absurd cc

refused_as : (given fault : MakeFault) → Some given ≡ Some fault → given ≡ fault
refused_as given fault same = cc

-- what the pair was
pub refused_finds : (l r : List ℕ) (found : Result FoundStore PairFault) (fault : MakeFault) → refusal found ≡ Some fault → IfOk found IsFound → IfOk found (λ store. HasRows l r store.rows.rows) → (IsErrOf found opening.BadStore → IsBad l r)
    → MakeFinds {T = Unit {0}} l r (Err fault)
refused_finds l r (Ok store) fault refused is rows bad =
    subst (λ (f : MakeFault). MakeFinds {T = Unit {0}} l r (Err f)) (refused_as making.AlreadyStore fault refused) (store.state, record { sound = is.sound; stored = store.rows.rows; form = is.form; rows = rows })
refused_finds l r (Err opening.NoStore) fault refused is rows bad = absurd cc
refused_finds l r (Err opening.BadStore) fault refused is rows bad = subst (λ (f : MakeFault). MakeFinds {T = Unit {0}} l r (Err f)) (refused_as making.BadStore fault refused) (bad refl)
refused_finds l r (Err opening.DiskFault) fault refused is rows bad = subst (λ (f : MakeFault). MakeFinds {T = Unit {0}} l r (Err f)) (refused_as making.DiskFault fault refused) tt
refused_finds l r (Err opening.OutOfMemory) fault refused is rows bad = subst (λ (f : MakeFault). MakeFinds {T = Unit {0}} l r (Err f)) (refused_as making.OutOfMemory fault refused) tt

-- the disk has failed for the one where it has for the other
pub failed_alike : (found : Result FoundStore PairFault) (fault : MakeFault) → refusal found ≡ Some fault → (IsErrOf found opening.DiskFault → fault ≡ making.DiskFault) × (fault ≡ making.DiskFault → IsErrOf found opening.DiskFault)
failed_alike (Ok store) fault refused = ((λ failed. absurd cc), λ failed. absurd cc)
failed_alike (Err opening.NoStore) fault refused = absurd cc
failed_alike (Err opening.BadStore) fault refused = ((λ failed. absurd cc), λ failed. absurd cc)
failed_alike (Err opening.DiskFault) fault refused = ((λ failed. sym (refused_as making.DiskFault fault refused)), λ failed. refl)
failed_alike (Err opening.OutOfMemory) fault refused = ((λ failed. absurd cc), λ failed. absurd cc)

pub make_fault_is : {T : Type 0} (fault other : MakeFault) → IsErrOf {T = T} {E = MakeFault} (Err fault) other → fault ≡ other
make_fault_is fault other is = cc

-- ---- the phases of a making

module _ {H : Type 0} (h : Ghosts H) (s : ClientState) (start mid : H) where
  -- it does no more than open the store
  pub opening_phases : {T U : Type 0} (found : Result T PairFault) (made : Result U MakeFault) → OpensInPhases h start mid found → (IsErrOf found opening.DiskFault → IsErrOf made making.DiskFault) → MakePhases h s start mid made
  opening_phases found made (inl failed) same = inr (inr (inl (same failed.0, failed.1)))
  opening_phases found made (inr both) same = inr (inl both)

  -- it makes a store behind an opening that found none
  pub making_phases : {U : Type 0} (new : H) (first : List ℕ) (made : Result U MakeFault) → first ≡ encoding s → IsAbsent (h.reads start Left) (h.reads start Right) → (HasNoList (h.reads start Left) (h.reads start Right) → IsOnlyRead h start mid)
      → IsUnwritten h start mid → MeetsAll h mid new (IsMaking h mid first) → MakePhases h s start new made
  making_phases new first made same absent read unwritten run = inl (record {
    absent = absent;
    synced = mid;
    first = (read (λ payloads has. list_is_store (h.reads start Left) (h.reads start Right) payloads has absent)).moments;
    unwritten = unwritten;
    second = subst (λ (payload : List ℕ). MeetsAll h mid new (IsMaking h mid payload)) same run;
  })
