use Rattle.std.proofs.Common.{sym, subst}
use Rattle.std.specs.Prelude.{option_map}
use Rattle.enrol_states.specs.Transitions.{CanOccur}
use Rattle.enrol_evolver.proofs.Fitness.{can-occur}
use Rattle.enrol_evolver.proofs.plan.Plan.add.Goals as goal

pub candidate-requires : goal.candidate-requires
candidate-requires g c =
    let client = c.args.client.now in
    let old = option_map (λ s. s.now) c.status_of-old.result in
    subst (CanOccur old) (sym c.in_ok-verdict.ensures.verdict) (can-occur client.context.now client.state.now client.moment c.args.recipe.now old c.requires.valid)
