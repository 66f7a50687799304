use Rattle.std.proofs.Common.{◌≡◌, ◌+◌, drop}
use Rattle.client_state.specs.Sections.{count_below}
use Rattle.client_state.proofs.sections.count_below.Given as goal

abbrev pub invariant-loop-place : goal.invariant-loop-place
invariant-loop-place l = l.place + count_below l.end (drop l.place l.rows) ≡ count_below l.end l.rows
