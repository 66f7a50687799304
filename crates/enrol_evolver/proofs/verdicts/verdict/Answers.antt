use Rattle.std.proofs.Common.{ap, ◌∙◌}
use Rattle.enrol_states.specs.State.{status_of}
use Rattle.enrol_evolver.specs.Verdicts.{verdict_from}
use Rattle.enrol_evolver.proofs.Results.{if_ok}
use Rattle.enrol_evolver.proofs.verdicts.verdict.Goals as goal

pub verdict_from-requires-clause-in_order : goal.verdict_from-requires-clause-in_order
verdict_from-requires-clause-in_order g c = record { rows = c.requires.rows; opted_out = c.requires.opted_out }

pub returns : goal.returns
returns g c =
    if_ok c.verdict_from.result _ _
    (ap (verdict_from c.args.context.now c.args.state.now c.args.now c.args.recipe.now) (c.status_of-old.ensures ∙ ap (λ t. status_of t c.args.state.now.rows) c.text.ensures.text))
    c.verdict_from.ensures.verdict
