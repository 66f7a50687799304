use Rattle.std.proofs.Common.{◌≡◌, ℕ, List, take}
use Rattle.enrol_states.specs.TextSets.{has_text}
use Rattle.enrol_states.specs.Holding.{is_held, AreApartBefore}
use Rattle.enrol_states.proofs.exclusive.are_apart.Given as goal

abbrev pub invariant-loop-row : goal.invariant-loop-row
invariant-loop-row l = record {
  held : (f : List ℕ) → has_text l.held f ≡ is_held l.state l.kind (take l.row-index l.row-items) f;
  apart : AreApartBefore l.state l.kind l.row-items l.row-index;
}
