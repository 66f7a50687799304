use Rattle.std.proofs.Common.{ap}
use Rattle.std.specs.Prelude.{option_map}
use Rattle.enrol_states.specs.Statuses.{is_enrolled_now}
use Rattle.enrol_evolver.specs.Verdicts.{by_choice, judged}
use Rattle.enrol_evolver.proofs.Results.{if_ok}
use Rattle.enrol_evolver.proofs.verdicts.verdict_from.Goals as goal

pub returns-in-Some-clause-verdict : goal.returns-in-Some-clause-verdict
returns-in-Some-clause-verdict g c =
    let client = c.args.client.now in
    if_ok c.chosen.result _ _
    (ap (λ o. by_choice client.state.now c.args.recipe.now o (judged client.context.now client.state.now client.moment c.args.recipe.now (is_enrolled_now (option_map (λ s. s.now) c.args.old)))) c.in-Some.ensures)
    c.chosen.ensures
