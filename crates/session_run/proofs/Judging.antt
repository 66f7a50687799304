-- Which status a call has, by what the pair of sides is.
use Rattle.std.proofs.Common.{◌≡◌, ◌⊎◌, inl, inr, ℕ, List, refl}
use Rattle.session_run.specs.declared.status.RunStatus.{RunStatus}
use Rattle.session_run.specs.declared.status.RunStatus.TheVariants.{Done, Usage, ScriptTooLong, NoStore, AlreadyStore, BadStore, SourceFault, ShelfFault, DiskFault, SayFault, OutOfMemory}
use Rattle.client_store.specs.Store.{IsStore, IsAbsent, IsBad}
use Rattle.session_run.specs.Finds.{EndedBefore, RunFinds, MakingFinds, RunJudges, MakingJudges}
use Rattle.client_store.proofs.Refusing.{stands_not_absent}

module _ (l r : List ℕ) where
  store_not_absent : IsStore l r → IsAbsent l r → ⊥
  store_not_absent (s, stands) absent = stands_not_absent l r s stands absent

  store_not_bad : IsStore l r → IsBad l r → ⊥
  store_not_bad (s, stands) bad = bad.no_state s stands

  -- a run, by what it found
  run_store : (status : RunStatus) → IsStore l r → RunJudges l r status
  run_store status store = record { no_store = λ absent. absurd (store_not_absent store absent); bad_store = λ bad. absurd (store_not_bad store bad) }

  run_ended : (status : RunStatus) → EndedBefore status → RunJudges l r status
  run_ended status ended = record { no_store = λ absent. inr ended; bad_store = λ bad. inr ended }

  pub run_judges : (status : RunStatus) → RunFinds l r status → RunJudges l r status
  run_judges Done finds = run_store Done finds
  run_judges SayFault finds = run_store SayFault finds
  run_judges ShelfFault finds = run_store ShelfFault finds
  run_judges NoStore finds = record { no_store = λ absent. inl refl; bad_store = λ bad. absurd (bad.found finds) }
  run_judges BadStore finds = record { no_store = λ absent. absurd (finds.found absent); bad_store = λ bad. inl refl }
  run_judges ScriptTooLong finds = run_ended ScriptTooLong (inl refl)
  run_judges SourceFault finds = run_ended SourceFault (inr (inl refl))
  run_judges DiskFault finds = run_ended DiskFault (inr (inr (inl refl)))
  run_judges OutOfMemory finds = run_ended OutOfMemory (inr (inr (inr refl)))
  run_judges Usage finds = absurd finds
  run_judges AlreadyStore finds = absurd finds

  pub run_complete : (status : RunStatus) → RunFinds l r status → IsStore l r → (status ≡ ScriptTooLong → ⊥) → (status ≡ SourceFault → ⊥) → (status ≡ ShelfFault → ⊥) → (status ≡ DiskFault → ⊥) → (status ≡ SayFault → ⊥)
      → (status ≡ Done) ⊎ (status ≡ OutOfMemory)
  run_complete Done finds found long source shelf disk say = inl refl
  run_complete OutOfMemory finds found long source shelf disk say = inr refl
  run_complete SayFault finds found long source shelf disk say = absurd (say refl)
  run_complete NoStore finds found long source shelf disk say = absurd (store_not_absent found finds)
  run_complete BadStore finds found long source shelf disk say = absurd (store_not_bad found finds)
  run_complete ScriptTooLong finds found long source shelf disk say = absurd (long refl)
  run_complete SourceFault finds found long source shelf disk say = absurd (source refl)
  run_complete DiskFault finds found long source shelf disk say = absurd (disk refl)
  run_complete ShelfFault finds found long source shelf disk say = absurd (shelf refl)
  run_complete Usage finds found long source shelf disk say = absurd finds
  run_complete AlreadyStore finds found long source shelf disk say = absurd finds

  -- a making
  making_absent : (status : RunStatus) → IsAbsent l r → MakingJudges l r status
  making_absent status absent = record { already_store = λ store. absurd (store_not_absent store absent); bad_store = λ bad. absurd (bad.found absent) }

  making_ended : (status : RunStatus) → EndedBefore status → MakingJudges l r status
  making_ended status ended = record { already_store = λ store. inr ended; bad_store = λ bad. inr ended }

  pub making_judges : (status : RunStatus) → MakingFinds l r status → MakingJudges l r status
  making_judges Done finds = making_absent Done finds
  making_judges SayFault finds = making_absent SayFault finds
  making_judges AlreadyStore finds = record { already_store = λ store. inl refl; bad_store = λ bad. absurd (store_not_bad finds bad) }
  making_judges BadStore finds = record { already_store = λ store. absurd (store_not_bad store finds); bad_store = λ bad. inl refl }
  making_judges DiskFault finds = making_ended DiskFault (inr (inr (inl refl)))
  making_judges OutOfMemory finds = making_ended OutOfMemory (inr (inr (inr refl)))
  making_judges Usage finds = absurd finds
  making_judges ScriptTooLong finds = absurd finds
  making_judges NoStore finds = absurd finds
  making_judges SourceFault finds = absurd finds
  making_judges ShelfFault finds = absurd finds

  pub making_complete : (status : RunStatus) → MakingFinds l r status → IsAbsent l r → (status ≡ DiskFault → ⊥) → (status ≡ SayFault → ⊥) → (status ≡ Done) ⊎ (status ≡ OutOfMemory)
  making_complete Done finds absent disk say = inl refl
  making_complete OutOfMemory finds absent disk say = inr refl
  making_complete SayFault finds absent disk say = absurd (say refl)
  making_complete AlreadyStore finds absent disk say = absurd (store_not_absent finds absent)
  making_complete BadStore finds absent disk say = absurd (finds.found absent)
  making_complete DiskFault finds absent disk say = absurd (disk refl)
  making_complete Usage finds absent disk say = absurd finds
  making_complete ScriptTooLong finds absent disk say = absurd finds
  making_complete NoStore finds absent disk say = absurd finds
  making_complete SourceFault finds absent disk say = absurd finds
  making_complete ShelfFault finds absent disk say = absurd finds
