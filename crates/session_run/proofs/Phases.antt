-- The opening of a run: the disk has failed before both sides were synced, or from then on each image is what reads gave, repaired and migrated.
use Rattle.std.proofs.Common.{◌≡◌, ◌⊎◌, inl, inr, List, ℕ, sym, ◌∙◌, ap, subst, Ok, Err}
use Rattle.std.specs.Prelude.{IsErrOf}
use Rattle.host_model.specs.declared.side.Side.{Side}
use Rattle.host_model.specs.declared.side.Side.TheVariants.{Left, Right}
use Rattle.host_model.specs.declared.host.Host.{Ghosts}
use Rattle.host_model.specs.Hosts.{MeetsAll, NowOf}
use Rattle.host_model.specs.Sides.{on}
use Rattle.host_model.proofs.Meeting.{then_met, met_weaker}
use Rattle.pair_store.specs.Moments.{IsReadOrRepaired}
use Rattle.pair_store.specs.Moments as sides
use Rattle.pair_store.specs.Repair.{IsRepaired, IsUnwritten, IsLeftByOpening}
use Rattle.client_core.specs.declared.client.Client.{Client}
use Rattle.pair_store.specs.declared.faults.PairFault.{PairFault}
use Rattle.pair_store.specs.declared.faults.PairFault.TheVariants.{DiskFault}
use Rattle.row_store.proofs.Folds.{fault_is}
use Rattle.client_store.specs.Openings.{IsReadOrMigrating, IsLeftOrMigrating, OpensInPhases, OpensInThreePhases}
use Rattle.session_run.specs.declared.status.RunStatus.{RunStatus}
use Rattle.session_run.specs.declared.status.RunStatus.TheVariants as status
use Rattle.session_run.specs.Moments.{EndsEarly, OpensBytes}
use Rattle.session_run.specs.Statuses.{of_store}

-- both sides were synced
pub record SyncsAndOpens {H : Type 0} (h : Ghosts H) (old opened : H) (answered : RunStatus) : Type 0 where
  pub synced : H
  pub first : MeetsAll h old synced (NowOf h old)
  pub unwritten : IsUnwritten h old synced
  pub second : MeetsAll h synced opened (IsReadOrMigrating h old)
  pub bytes : OpensBytes h old synced opened answered

-- or the run had ended before
abbrev pub Begins : {H : Type 0} → Ghosts H → H → H → RunStatus → Type 0
Begins h old new answered = (EndsEarly h old new answered × MeetsAll h old new (NowOf h old)) ⊎ SyncsAndOpens h old new answered

failed_is : (fault : PairFault) → IsErrOf {T = Client} {E = PairFault} (Err fault) DiskFault → of_store fault ≡ status.DiskFault
failed_is fault is = ap of_store (fault_is fault DiskFault is)

never_failed : (client : Client) (fault : PairFault) → IsErrOf {T = Client} {E = PairFault} (Ok client) fault → ⊥
never_failed client fault is = absurd cc

module _ {H : Type 0} (h : Ghosts H) (old new : H) where
  repaired_is : (repaired : H) (l r : List ℕ) → ((side : Side) → on side l r ≡ h.reads repaired side) → IsRepaired h old (h.reads repaired Left) (h.reads repaired Right) → IsRepaired h old l r
  repaired_is repaired l r same is = subst (λ (c : List ℕ). IsRepaired h old l c) (sym (same Right)) (subst (λ (c : List ℕ). IsRepaired h old c (h.reads repaired Right)) (sym (same Left)) is)

  -- what a migration begins with is what reads gave, repaired
  seen_as_read : (repaired : H) → IsLeftByOpening h old repaired → (l r u : List ℕ) → IsLeftOrMigrating h old repaired l r u → IsReadOrMigrating h old l r u
  seen_as_read repaired left l r u (inl (same, text)) = elim left.bytes [
    | inl unchanged ↦ inl (inl (λ side. same side ∙ unchanged side), text)
    | inr closed ↦ inl (inr (repaired_is repaired l r same closed.repaired), text)
  ]
  seen_as_read repaired left l r u (inr migrating) = inr migrating

  of_three : (answered : RunStatus) → OpensInThreePhases h old new → SyncsAndOpens h old new answered
  of_three answered three = record {
    synced = three.synced;
    first = three.first;
    unwritten = three.unwritten;
    second = then_met h.moment h.might three.synced three.repaired new (IsReadOrRepaired h old) (IsLeftOrMigrating h old three.repaired) (IsReadOrMigrating h old) three.second three.third (λ l r u met. inl met)
        (seen_as_read three.repaired three.left);
    bytes = inr (record { repaired = three.repaired; repair = three.second; left = three.left; migration = three.third });
  }

  of_two : (answered : RunStatus) → answered ≡ status.DiskFault → sides.OpensInTwoPhases h old new → SyncsAndOpens h old new answered
  of_two answered is two = record {
    synced = two.synced;
    first = two.first;
    unwritten = two.unwritten;
    second = met_weaker h.moment h.might two.synced new (IsReadOrRepaired h old) (IsReadOrMigrating h old) two.second (λ l r u met. inl met);
    bytes = inl (is, two.second);
  }

  -- of a store that was not opened
  pub unopened_begins : (fault : PairFault) → OpensInPhases {T = Client} h old new (Err fault) → Begins h old new (of_store fault)
  unopened_begins fault (inl (failed, inl unsynced)) = inl (subst (EndsEarly h old new) (sym (failed_is fault failed)) unsynced, unsynced.moments)
  unopened_begins fault (inl (failed, inr two)) = inr (of_two (of_store fault) (failed_is fault failed) two)
  unopened_begins fault (inr three) = inr (of_three (of_store fault) three)

  -- of one that was
  pub opened_begins : (answered : RunStatus) (client : Client) → OpensInPhases h old new (Ok client) → SyncsAndOpens h old new answered
  opened_begins answered client (inl (failed, ended)) = absurd (never_failed client DiskFault failed)
  opened_begins answered client (inr three) = of_three answered three
