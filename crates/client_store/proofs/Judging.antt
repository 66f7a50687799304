-- Which answer a call has, by what the pair of sides is.
use Rattle.std.proofs.Common.{◌≡◌, ◌⊎◌, inl, inr, ℕ, List, refl, Result, Ok, Err, IsOk, IsErrOf}
use Rattle.host_model.specs.declared.host.Host.{Ghosts}
use Rattle.host_model.specs.declared.side.Side.TheVariants.{Left, Right}
use Rattle.pair_store.specs.declared.faults.PairFault.{PairFault}
use Rattle.pair_store.specs.declared.faults.PairFault.TheVariants as opening
use Rattle.client_state.specs.declared.client_state.ClientState.{ClientState}
use Rattle.client_store.specs.declared.faults.MakeFault.{MakeFault}
use Rattle.client_store.specs.declared.faults.MakeFault.TheVariants as making
use Rattle.client_store.specs.Finds.{OpenFinds, MakeFinds, MakeFailed}
use Rattle.client_store.specs.Openings.{OpenEnds, OpenJudges}
use Rattle.client_store.specs.Store.{StandsFor, IsStore, IsAbsent, IsBad}
use Rattle.client_store.specs.Stored.{StoredState}
use Rattle.client_store.proofs.Refusing.{stands_not_absent}

-- ---- an opening

module _ {T : Type 0} (l r : List ℕ) where
  -- the pair stands for a state
  pub opened_judges : (opened : T) (s : ClientState) → StandsFor l r s → OpenJudges l r (Ok opened)
  opened_judges opened s stands = record { opened = λ t is. inl refl; no_store = λ absent. absurd (stands_not_absent l r s stands absent); bad_store = λ bad. absurd (bad.no_state s stands) }

  -- nothing was opened
  pub unopened_judges : (fault : PairFault) → OpenFinds l r fault → OpenJudges {T = T} l r (Err fault)
  unopened_judges opening.NoStore absent = record { opened = λ s stands. absurd (stands_not_absent l r s stands absent); no_store = λ is. inl refl; bad_store = λ bad. absurd (bad.found absent) }
  unopened_judges opening.BadStore bad = record { opened = λ s stands. absurd (bad.no_state s stands); no_store = λ absent. absurd (bad.found absent); bad_store = λ is. inl refl }
  unopened_judges opening.DiskFault finds = record { opened = λ s stands. inr (inl refl); no_store = λ absent. inr (inl refl); bad_store = λ bad. inr (inl refl) }
  unopened_judges opening.OutOfMemory finds = record { opened = λ s stands. inr (inr refl); no_store = λ absent. inr (inr refl); bad_store = λ bad. inr (inr refl) }

-- by what stands at its end
pub ends_judge : {H : Type 0} (h : Ghosts H) (start new : H) (result : Result StoredState PairFault) → OpenEnds h start new result → OpenJudges (h.reads start Left) (h.reads start Right) result
ends_judge h start new (Ok store) ends = opened_judges (h.reads start Left) (h.reads start Right) store store.state ends.stands
ends_judge h start new (Err fault) ends = unopened_judges (h.reads start Left) (h.reads start Right) fault ends.finds

-- what an opening found that opened nothing
pub open_finds : (l r : List ℕ) (fault : PairFault) → (fault ≡ opening.NoStore → IsAbsent l r) → (fault ≡ opening.BadStore → IsBad l r) → OpenFinds l r fault
open_finds l r opening.NoStore absent bad = absent refl
open_finds l r opening.BadStore absent bad = bad refl
open_finds l r opening.DiskFault absent bad = tt
open_finds l r opening.OutOfMemory absent bad = tt

-- ---- a making

-- which answer each pair has, unless the disk failed or memory was wanting
pub record MakeJudges {T : Type 0} (l r : List ℕ) (result : Result T MakeFault) : Type 0 where
  pub made : IsAbsent l r → IsOk result ⊎ MakeFailed result
  pub already_store : IsStore l r → IsErrOf result making.AlreadyStore ⊎ MakeFailed result
  pub bad_store : IsBad l r → IsErrOf result making.BadStore ⊎ MakeFailed result

-- nothing was made
pub unmade_judges : {T : Type 0} (l r : List ℕ) (fault : MakeFault) → MakeFinds {T = T} l r (Err fault) → MakeJudges {T = T} l r (Err fault)
unmade_judges l r making.AlreadyStore store = record { made = λ absent. absurd (stands_not_absent l r store.0 store.1 absent); already_store = λ is. inl refl; bad_store = λ bad. absurd (bad.no_state store.0 store.1) }
unmade_judges l r making.BadStore bad = record { made = λ absent. absurd (bad.found absent); already_store = λ store. absurd (bad.no_state store.0 store.1); bad_store = λ is. inl refl }
unmade_judges l r making.DiskFault finds = record { made = λ absent. inr (inl refl); already_store = λ store. inr (inl refl); bad_store = λ bad. inr (inl refl) }
unmade_judges l r making.OutOfMemory finds = record { made = λ absent. inr (inr refl); already_store = λ store. inr (inr refl); bad_store = λ bad. inr (inr refl) }
