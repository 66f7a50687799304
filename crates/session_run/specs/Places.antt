-- Where the next record begins, and how many bytes were written, line by line.
use Rattle.std.specs.Prelude.{ℕ, ◌+◌, List, [], ◌∷◌}
use Rattle.client_store.specs.Places.{place_after, bytes_for}
use Rattle.client_steps.specs.Settings.{Setting}
use Rattle.session_run.specs.Steps.{RunState, run_after}

-- where the next record begins after these lines
abbrev pub all_places : Setting → ℕ → RunState → List (List ℕ) → ℕ
all_places at place run [] = place
all_places at place run (line ∷ lines) = all_places at (place_after place run.state (run_after at run line).state) (run_after at run line) lines

-- how many bytes these lines write
abbrev pub all_bytes : Setting → ℕ → RunState → List (List ℕ) → ℕ
all_bytes at place run [] = 0
all_bytes at place run (line ∷ lines) =
    bytes_for place run.state (run_after at run line).state
    + all_bytes at (place_after place run.state (run_after at run line).state) (run_after at run line) lines
