-- What the lines of a run begin with, and what is known after the first of them.
use Rattle.std.specs.Prelude.{◌≢◌, ◌+◌, ◌<◌, ℕ, List, length, take}
use Rattle.host_model.specs.declared.host.Host.{Ghosts}
use Rattle.host_model.specs.declared.shelf.Shelf as shelves
use Rattle.client_state.specs.declared.client_state.ClientState.{ClientState}
use Rattle.client_steps.specs.Settings.{Setting, setting}
use Rattle.session_run.specs.Places.{all_bytes}
use Rattle.session_run.specs.Steps.{begun, after, out}

-- the files and the moment, the client's state, where its store's next record begins, the lines, the text that was said, and how many bytes were written
pub record Start : Type 0 where
  pub at : Setting
  pub state : ClientState
  pub place : ℕ
  pub lines : List (List ℕ)
  pub said : List ℕ
  pub written : ℕ

-- the lines are done over this shelf and this host
abbrev pub start_on : {F H : Type 0} → shelves.Ghosts F → Ghosts H → ℕ → F → H → List (List ℕ) → ClientState → ℕ → Start
start_on f h now shelf host lines s place =
    record { at = setting f shelf now; state = s; place = place; lines = lines; said = h.said host; written = h.written host }

-- so they are behind an opening over it, which leaves the next record at this place and writes so many bytes
abbrev pub opened_on : {F H : Type 0} → shelves.Ghosts F → Ghosts H → ℕ → F → H → List (List ℕ) → ClientState → ℕ → ℕ → Start
opened_on f h now shelf host lines s place bytes =
    record { at = setting f shelf now; state = s; place = place; lines = lines; said = h.said host; written = h.written host + bytes }

-- how many lines there are
abbrev pub line_count : Start → ℕ
line_count start = length start.lines

-- the state after the first k lines
abbrev pub state_at : Start → ℕ → ClientState
state_at start k = after start.at start.state start.lines k

-- the state after all lines
abbrev pub last_state : Start → ClientState
last_state start = state_at start (line_count start)

-- the joined answers to the first k lines
abbrev pub answers : Start → ℕ → List ℕ
answers start k = out start.at start.state start.lines k

-- how many bytes were written after the first k lines
abbrev pub written_at : Start → ℕ → ℕ
written_at start k = start.written + all_bytes start.at start.place (begun start.state) (take k start.lines)

-- one of the lines changes the state
abbrev pub Changes : Start → Type 0
Changes start = (k : ℕ) × (k < line_count start) × (state_at start k ≢ state_at start (k + 1))
