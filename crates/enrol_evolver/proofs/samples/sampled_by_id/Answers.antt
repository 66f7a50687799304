use Rattle.std.proofs.Common.{Some, ap, ◌∙◌}
use Rattle.uuid.specs.Text.{hyphenated_text, lower}
use Rattle.enrol_evolver.specs.Verdicts.{sampled_by, id_text}
use Rattle.enrol_evolver.proofs.Results.{if_ok}
use Rattle.enrol_evolver.proofs.samples.sampled_by_id.Goals as goal

pub returns : goal.returns
unfolding id_text
returns c = if_ok c.sampled_by.result _ _ (ap (λ t. sampled_by c.args.recipe.now (Some t)) (c.encode_lower.ensures.text ∙ ap (hyphenated_text lower) c.hyphenated.ensures)) c.sampled_by.ensures
