-- The causes of a call that makes a store.
use Rattle.std.proofs.Common.{◌⊎◌, ℕ, List, [], refl, subst, arith}
use Rattle.host_model.specs.declared.host.Host.{Ghosts}
use Rattle.host_model.specs.Hosts.{MeetsAll}
use Rattle.host_model.specs.declared.shelf.Shelf as shelves
use Rattle.host_model.specs.declared.source.Source as sources
use Rattle.session_run.specs.declared.status.RunStatus.{RunStatus}
use Rattle.session_run.specs.Causes.{HasCauses}
use Rattle.session_run.specs.FaultCauses.{IsStatusOf, HasHostCauses}
use Rattle.session_run.specs.Finds.{MakingFound}
use Rattle.session_run.specs.Statuses.{IsOfMaking}
use Rattle.session_run.specs.Words.{IsInit, IsDrill}
use Rattle.session_run.specs.Writes.{IsBelowMark}
use Rattle.session_run.proofs.Belonging.{making_belongs, making_reaches}
use Rattle.session_run.proofs.Judging.{making_complete}
use Rattle.session_run.proofs.WordLists.{run_makes_none}

pub making_causes : {S F H : Type 0} (s : sources.Ghosts S) (f : shelves.Ghosts F) (h : Ghosts H) (words : List (List ℕ)) (source : S) (shelf : F) (old new : H) (answered : RunStatus) → IsInit words ⊎ IsDrill words → IsOfMaking answered
    → HasHostCauses h (IsStatusOf answered) old new → (h.tells → MakingFound h old new answered) → (h.tells → MeetsAll h old new (IsBelowMark h old))
    → HasCauses s f h words source source shelf shelf old new answered
making_causes s f h words source shelf old new answered makes is_of causes found below = record {
  belongs = making_belongs words makes answered is_of;
  source_rose = λ is. absurd (subst IsOfMaking is is_of);
  shelf_rose = λ is. absurd (subst IsOfMaking is is_of);
  disk_rose = causes.disk;
  say_rose = causes.say;
  source_quiet = λ other. refl;
  shelf_quiet = λ other. refl;
  disk_quiet = causes.disk_quiet;
  say_quiet = causes.say_quiet;
  unreached = λ is. absurd (making_reaches answered is_of is);
  unasked = λ is. refl;
  unasked_where = λ tells none. refl;
  unread = λ is. refl;
  apart = λ is. (refl, refl);
  asked = λ is_run. absurd (run_makes_none words is_run makes);
  files = λ tells name. refl;
  too_long = λ is. absurd (subst IsOfMaking is is_of);
  too_long_where = λ is_run. absurd (run_makes_none words is_run makes);
  taken = λ tells. ([], refl, omega arith);
  read = λ is_run. absurd (run_makes_none words is_run makes);
  run_found = λ is_run. absurd (run_makes_none words is_run makes);
  making_found = λ is. found;
  next = λ is_run. absurd (run_makes_none words is_run makes);
  below = below;
  run_done = λ is_run. absurd (run_makes_none words is_run makes);
  making_done = λ is tells absent no_disk no_say. making_complete _ _ answered (found tells).finds absent (λ fault. no_disk (causes.disk fault)) (λ fault. no_say (causes.say fault));
}
