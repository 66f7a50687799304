use Rattle.std.proofs.Common.{◌≡◌, take}
use Rattle.enrol_states.specs.Statuses.{is_enrolled, was_enrolled}
use Rattle.recipe_drill.specs.Summary.{count_of, is_not_enrolled, is_disqualified, is_error}
use Rattle.recipe_drill.proofs.counting.counts_of.Given as goal

abbrev pub invariant-loop-row : goal.invariant-loop-row
invariant-loop-row l = record {
  enrolled : l.counts.enrolled ≡ count_of is_enrolled (take l.row-index l.rows);
  not_enrolled : l.counts.not_enrolled ≡ count_of is_not_enrolled (take l.row-index l.rows);
  disqualified : l.counts.disqualified ≡ count_of is_disqualified (take l.row-index l.rows);
  was_enrolled : l.counts.was_enrolled ≡ count_of was_enrolled (take l.row-index l.rows);
  error : l.counts.error ≡ count_of is_error (take l.row-index l.rows);
}
