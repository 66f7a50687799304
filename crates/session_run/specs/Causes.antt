-- Which words a status belongs to, and the cause of each. This holds of every source, shelf and host, also of one that tells nothing; only
-- what has `tells` as its premise asks for more.
use Rattle.std.specs.Prelude.{◌≡◌, ◌⊎◌, ◌<◌, ◌≤◌, ◌^◌, ℕ, List, [], length}
use Rattle.host_model.specs.Causes.{Rose}
use Rattle.host_model.specs.Hosts.{MeetsAll}
use Rattle.host_model.specs.declared.side.Side.TheVariants.{Left, Right}
use Rattle.host_model.specs.declared.host.Host.{Ghosts}
use Rattle.host_model.specs.declared.shelf.Shelf as shelves
use Rattle.host_model.specs.declared.source.Source as sources
use Rattle.client_state.specs.declared.client_state.ClientState.{ClientState}
use Rattle.client_store.specs.Store.{StandsFor, IsStore, IsAbsent}
use Rattle.client_words.specs.Commands.{lines_of}
use Rattle.session_run.specs.declared.status.RunStatus.{RunStatus}
use Rattle.session_run.specs.declared.status.RunStatus.TheVariants.{Done, Usage, ScriptTooLong, NoStore, AlreadyStore, BadStore}
use Rattle.session_run.specs.declared.status.RunStatus.TheVariants.{SourceFault, ShelfFault, DiskFault, SayFault, OutOfMemory}
use Rattle.session_run.specs.Files.{LinesAsked}
use Rattle.session_run.specs.Finds.{RunFound, MakingFound}
use Rattle.session_run.specs.Later.{MayGoOn}
use Rattle.session_run.specs.Scripts.{TakesFew}
use Rattle.session_run.specs.Words.{IsRun, IsInit, IsDrill, HasForm}
use Rattle.session_run.specs.Writes.{IsBelowMark}

-- the words that a status belongs to
abbrev pub BelongsTo : List (List ℕ) → RunStatus → Type 0
BelongsTo words Usage = ¬ HasForm words
BelongsTo words ScriptTooLong = IsRun words
BelongsTo words NoStore = IsRun words
BelongsTo words SourceFault = IsRun words
BelongsTo words ShelfFault = IsRun words
BelongsTo words AlreadyStore = IsInit words ⊎ IsDrill words
BelongsTo words status = HasForm words

-- the store and the output are not reached
abbrev pub IsUnreached : RunStatus → Type 0
IsUnreached status = (status ≡ Usage) ⊎ (status ≡ ScriptTooLong) ⊎ (status ≡ SourceFault)

-- no store is opened
abbrev pub OpensNone : RunStatus → Type 0
OpensNone Usage = Unit {0}
OpensNone ScriptTooLong = Unit {0}
OpensNone SourceFault = Unit {0}
OpensNone NoStore = Unit {0}
OpensNone AlreadyStore = Unit {0}
OpensNone BadStore = Unit {0}
OpensNone status = ⊥

-- a call with these words
pub record HasCauses {S F H : Type 0} (s : sources.Ghosts S) (f : shelves.Ghosts F) (h : Ghosts H) (words : List (List ℕ))
    (source new_source : S) (shelf new_shelf : F) (host new_host : H) (status : RunStatus) : Type 0 where
  -- NoStore, ScriptTooLong, SourceFault and ShelfFault are answers of `run` alone, AlreadyStore of `init` and `drill` alone
  pub belongs : BelongsTo words status
  -- each fault comes only where its count rose
  pub source_rose : status ≡ SourceFault → Rose (s.faults source) (s.faults new_source)
  pub shelf_rose : status ≡ ShelfFault → Rose (f.faults shelf) (f.faults new_shelf)
  pub disk_rose : status ≡ DiskFault → Rose (h.disk_faults host) (h.disk_faults new_host)
  pub say_rose : status ≡ SayFault → Rose (h.say_faults host) (h.say_faults new_host)
  -- and where it is not the call's end, the count of the source, of the shelf, of the disk and of the output is as before: none is tried
  -- again after a fault
  pub source_quiet : ¬ (status ≡ SourceFault) → s.faults new_source ≡ s.faults source
  pub shelf_quiet : ¬ (status ≡ ShelfFault) → f.faults new_shelf ≡ f.faults shelf
  pub disk_quiet : ¬ (status ≡ DiskFault) → h.disk_faults new_host ≡ h.disk_faults host
  pub say_quiet : ¬ (status ≡ SayFault) → h.say_faults new_host ≡ h.say_faults host
  -- for Usage, ScriptTooLong and SourceFault no call of the host was made, where no store was opened none of the shelf, and for Usage none of the source
  pub unreached : IsUnreached status → new_host ≡ host
  pub unasked : OpensNone status → new_shelf ≡ shelf
  pub unread : status ≡ Usage → new_source ≡ source
  -- nor is one of the shelf made where the pair of sides stands for no state, whatever the status
  pub unasked_where : h.tells → ((s : ClientState) → StandsFor (h.reads host Left) (h.reads host Right) s → ⊥) → new_shelf ≡ shelf
  -- `init` and `drill` read neither the source nor the shelf
  pub apart : IsInit words ⊎ IsDrill words → (new_source ≡ source) × (new_shelf ≡ shelf)
  -- no file is asked for that the lines don't ask for, and none is changed
  pub asked : IsRun words → s.tells → LinesAsked f shelf new_shelf (lines_of (s.left source))
  pub files : f.tells → (name : List ℕ) → f.file new_shelf name ≡ f.file shelf name
  -- ScriptTooLong comes where the source had more than 2^20 bytes, and there nothing else comes but a fault of the source or want of memory
  pub too_long : status ≡ ScriptTooLong → s.tells → 2 ^ 20 < length (s.left source)
  pub too_long_where : IsRun words → s.tells → 2 ^ 20 < length (s.left source)
      → (status ≡ ScriptTooLong) ⊎ (status ≡ SourceFault) ⊎ (status ≡ OutOfMemory)
  -- of a source at most one byte more is taken than a script may have, and a run that is done has read it to its end
  pub taken : s.tells → TakesFew (s.left source) (s.left new_source)
  pub read : IsRun words → status ≡ Done → s.tells → s.left new_source ≡ []
  -- what the pair of sides was that was read, by the status, and which status each such pair has
  pub run_found : IsRun words → h.tells → RunFound h host new_host status
  pub making_found : IsInit words ⊎ IsDrill words → h.tells → MakingFound h host new_host status
  -- the next run may begin on what one has left
  pub next : IsRun words → h.tells → MayGoOn h host new_host status
  -- no byte at or past byte 33,554,432 of a side is written
  pub below : h.tells → MeetsAll h host new_host (IsBelowMark h host)
  -- where no count rises all is done, unless memory is wanting
  pub run_done : IsRun words → s.tells → h.tells → length (s.left source) ≤ 2 ^ 20 → IsStore (h.reads host Left) (h.reads host Right)
      → ¬ Rose (s.faults source) (s.faults new_source) → ¬ Rose (f.faults shelf) (f.faults new_shelf)
      → ¬ Rose (h.disk_faults host) (h.disk_faults new_host) → ¬ Rose (h.say_faults host) (h.say_faults new_host)
      → (status ≡ Done) ⊎ (status ≡ OutOfMemory)
  pub making_done : IsInit words ⊎ IsDrill words → h.tells → IsAbsent (h.reads host Left) (h.reads host Right)
      → ¬ Rose (h.disk_faults host) (h.disk_faults new_host) → ¬ Rose (h.say_faults host) (h.say_faults new_host)
      → (status ≡ Done) ⊎ (status ≡ OutOfMemory)
