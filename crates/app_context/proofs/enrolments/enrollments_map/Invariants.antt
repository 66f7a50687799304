use Rattle.std.proofs.Common.{◌≡◌, map, take}
use Rattle.app_context.specs.Enrolments.{enrolments_of, branch_json}
use Rattle.app_context.proofs.enrolments.enrollments_map.Given as goal

abbrev pub invariant-loop-row : goal.invariant-loop-row
invariant-loop-row l = l.branches ≡ map branch_json (enrolments_of (take l.row-index l.rows))
