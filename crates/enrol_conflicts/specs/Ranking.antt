-- The ranks of wishes by their places.
use Rattle.std.specs.Prelude.{ℕ, List, slice_get}
use Rattle.std.specs.declared.cmp.Ordering.{Ordering}
use Rattle.std.specs.Ordering.{on}
use Rattle.std.specs.Option.{option_cmp}
use Rattle.enrol_conflicts.specs.declared.candidate.Candidate.{Candidate}
use Rattle.enrol_conflicts.specs.Settlement.{rank_cmp}

abbrev pub place_cmp : List Candidate → ℕ → ℕ → Ordering
place_cmp wishes = on (slice_get wishes) (option_cmp rank_cmp)
