use Rattle.std.proofs.Common.{◌≡◌, map, take}
use Rattle.json_tree.specs.Json.{text}
use Rattle.app_context.specs.Enrolments.{active_slugs}
use Rattle.app_context.proofs.enrolments.active_experiments.Given as goal

abbrev pub invariant-loop-row : goal.invariant-loop-row
invariant-loop-row l = l.slugs ≡ map text (active_slugs (take l.row-index l.rows))
