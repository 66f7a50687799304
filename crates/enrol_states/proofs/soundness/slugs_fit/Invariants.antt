use Rattle.std.proofs.Common.{All, take}
use Rattle.enrol_states.specs.Statuses.{IsSlug}
use Rattle.enrol_states.proofs.soundness.slugs_fit.Given as goal

abbrev pub invariant-loop-slug : goal.invariant-loop-slug
invariant-loop-slug l = All IsSlug (take l.slug-index l.slugs)
