use Rattle.std.proofs.Common.{◌≡◌, map, take}
use Rattle.app_context.specs.Enrolments.{enrolments_of, slug_json}
use Rattle.app_context.proofs.enrolments.enrollments.Given as goal

abbrev pub invariant-loop-row : goal.invariant-loop-row
invariant-loop-row l = l.slugs ≡ map slug_json (enrolments_of (take l.row-index l.rows))
