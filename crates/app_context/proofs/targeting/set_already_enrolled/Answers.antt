use Rattle.std.proofs.Common.{ap, ◌∙◌}
use Rattle.std.proofs.lemmas.Result.{on_ok_weaker}
use Rattle.app_context.specs.Attributes.{with_enrolled}
use Rattle.app_context.proofs.Entries.{enrolled_again}
use Rattle.app_context.proofs.targeting.set_already_enrolled.Goals as goal

pub returns-clause-prepared : goal.returns-clause-prepared
returns-clause-prepared c = λ context now prepared.
    on_ok_weaker c.enter.result (λ set. λ b. ap (with_enrolled b) set ∙ enrolled_again context c.args.state.now now c.is_enrolled-is_enrolled.result b c.args.attributes.now.pairs prepared) c.enter.ensures.ok
