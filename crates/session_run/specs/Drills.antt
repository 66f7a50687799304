-- A drill: its store, its files and its script, and what might be met at its moments.
use Rattle.std.specs.Prelude.{◌≡◌, ◌⊎◌, ℕ, List, [], ◌∷◌, ◌++◌, Option, Some, None, codes, bytes_eq, take, if◌then◌else◌}
use Rattle.client_state.specs.declared.client_state.ClientState.{ClientState}
use Rattle.client_store.specs.NewStates.{fresh}
use Rattle.recipe_drill.specs.Files.{script}
use Rattle.recipe_drill.specs.Parts.{drill}
use Rattle.recipe_drill.specs.Summary as counts
use Rattle.client_steps.specs.Settings.{Setting}
use Rattle.client_store.specs.Store.{KeptFor}
use Rattle.client_words.specs.Commands.{lines_of}
use Rattle.session_run.specs.Making.{ready, DuringMaking}
use Rattle.session_run.specs.Moments.{AfterPrefix}
use Rattle.session_run.specs.Starts.{Start, line_count, last_state, answers}

-- the sixteen bytes of the id of its store
abbrev pub drill_bytes : List ℕ
drill_bytes = 0 ∷ 0 ∷ 0 ∷ 0 ∷ 0 ∷ 0 ∷ 64 ∷ 0 ∷ 128 ∷ 0 ∷ 0 ∷ 0 ∷ 0 ∷ 0 ∷ 0 ∷ 0 ∷ []

-- the state of its new store
abbrev pub drill_fresh : ℕ → ClientState
drill_fresh now = fresh drill_bytes now

-- what is said of the new store
abbrev pub drill_ready : List ℕ
drill_ready = ready drill_bytes

-- the file of this name, where the three files have these bytes
unfoldable pub file_among : List ℕ → List ℕ → List ℕ → List ℕ → Option (List ℕ)
file_among manifest context recipes name =
    if bytes_eq name (codes "manifest.json") then Some manifest
    else if bytes_eq name (codes "context.json") then Some context
    else if bytes_eq name (codes "recipes.json") then Some recipes
    else None

-- its files and its moment
unfoldable pub drill_setting : ℕ → ℕ → ℕ → Setting
drill_setting start count now =
    record { files = file_among (drill start count).manifest (drill start count).context (drill start count).recipes; now = now }

-- the lines of its script
unfoldable pub drill_lines : List (List ℕ)
drill_lines = lines_of script

-- what its lines begin with, where the next record begins at this place, and behind this text and so many written bytes
abbrev pub drill_start : ℕ → ℕ → ℕ → ℕ → List ℕ → ℕ → Start
drill_start start count now place said written =
    record { at = drill_setting start count now; state = drill_fresh now; place = place; lines = drill_lines; said = said; written = written }

-- the summary of the state after its script
abbrev pub drill_summary : ℕ → ℕ → ℕ → List ℕ
drill_summary start count now = counts.summary start count (last_state (drill_start start count now 0 [] 0)).enrolment

-- all answers were said, and then a prefix of the summary. The images are kept for the last state
pub record InSummary (start : Start) (summary l r u : List ℕ) : Type 0 where
  pub kept : KeptFor l r (last_state start)
  pub n : ℕ
  pub text : u ≡ start.said ++ answers start (line_count start) ++ take n summary

-- from `ready` on: as in a run of the lines, and then in the summary
abbrev pub AfterReady : Start → List ℕ → List ℕ → List ℕ → List ℕ → Type 0
AfterReady start summary l r u = AfterPrefix start l r u ⊎ InSummary start summary l r u

-- during a drill: as in the making of its store until `ready` is said, and from then on as above
abbrev pub DuringDrill : ℕ → ℕ → ℕ → List ℕ → List ℕ → List ℕ → List ℕ → Type 0
DuringDrill start count now said l r u =
    DuringMaking said (drill_fresh now) drill_ready l r u
    ⊎ AfterReady (drill_start start count now 0 (said ++ drill_ready) 0) (drill_summary start count now) l r u
