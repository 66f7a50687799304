use Rattle.std.proofs.Common.{◌≡◌, true, false, Some, sym, ap, ◌∙◌}
use Rattle.std.specs.Prelude.{bytes_eq}
use Rattle.app_context.specs.Named.{text_with}
use Rattle.enrol_evolver.specs.Verdicts.{client_unit, sampled_by, id_text}
use Rattle.enrol_evolver.proofs.Results.{if_ok}
use Rattle.enrol_evolver.proofs.Units.{by_id, by_name}
use Rattle.enrol_evolver.proofs.samples.sampled.Goals as goal

pub returns-then-eq : goal.returns-then-eq
returns-then-eq c =
    let same : bytes_eq c.args.recipe.now.bucket.unit client_unit ≡ true = ap (λ t. bytes_eq t client_unit) (sym c.as_str-unit.ensures.text) ∙ sym c.eq.ensures ∙ c.if-eq.true in
    if_ok c.sampled_by_id.result _ _ (ap (sampled_by c.args.recipe.now) (sym (by_id c.args.client.now.context.now (id_text c.args.client.now.state.now.id) c.args.recipe.now.bucket.unit same))) c.sampled_by_id.ensures

pub returns-in-Some : goal.returns-in-Some
returns-in-Some c =
    let other : bytes_eq c.args.recipe.now.bucket.unit client_unit ≡ false = ap (λ t. bytes_eq t client_unit) (sym c.as_str-unit.ensures.text) ∙ sym c.eq.ensures ∙ c.if-eq.false in
    if_ok c.sampled_by.result _ _
    (ap (sampled_by c.args.recipe.now)
    (ap Some c.as_str.ensures.text ∙ c.in-Some.ensures ∙ ap (λ t. text_with t c.args.client.now.context.now.units) c.as_str-unit.ensures.text
    ∙ sym (by_name c.args.client.now.context.now (id_text c.args.client.now.state.now.id) c.args.recipe.now.bucket.unit other)))
    c.sampled_by.ensures
