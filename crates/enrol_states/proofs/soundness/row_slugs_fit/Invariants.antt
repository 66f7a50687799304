use Rattle.std.proofs.Common.{All, take}
use Rattle.enrol_states.specs.Statuses.{IsSlug}
use Rattle.enrol_states.specs.declared.state.Row.{Row}
use Rattle.enrol_states.proofs.soundness.row_slugs_fit.Given as goal

abbrev pub invariant-loop-row : goal.invariant-loop-row
invariant-loop-row l = All (λ (row : Row). IsSlug row.slug) (take l.row-index l.rows)
