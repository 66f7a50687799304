-- The numbers that a drill draws, and the five of each record.
use Rattle.std.specs.Prelude.{◌+◌, ◌*◌, ◌/◌, ◌%◌, ◌^◌, ℕ, zero, suc}
use Rattle.recipe_drill.specs.declared.draws.Draws.{Draws}

-- the state of the linear congruential generator after the next draw
abbrev pub next_state : ℕ → ℕ
next_state x = (x * 6364136223846793005 + 1442695040888963407) % 2 ^ 64

-- the state after so many draws, from `start` on
unfoldable pub state_after : ℕ → ℕ → ℕ
state_after start zero = start
state_after start (suc k) = next_state (state_after start k)

-- the draw of this number, of which the first is 0
abbrev pub draw : ℕ → ℕ → ℕ
draw start k = state_after start (k + 1) / 2 ^ 33

-- the five draws for a record
abbrev pub drawn : ℕ → ℕ → Draws
drawn start i = record {
  feature = draw start (5 * i) % 40;
  kind = draw start (5 * i + 1) % 4;
  count = draw start (5 * i + 2) % 10001;
  pause = draw start (5 * i + 3) % 10;
  version = draw start (5 * i + 4) % 40;
}

-- the numbers of a record: the first is open to every client, whatever was drawn
unfoldable pub draws : ℕ → ℕ → Draws
draws start zero = record (drawn start zero) { count = 10000; pause = 1; version = 0 }
draws start (suc i) = drawn start (suc i)
