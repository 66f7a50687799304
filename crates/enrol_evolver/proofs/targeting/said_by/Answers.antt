use Rattle.std.proofs.Common.{◌≡◌, Some, sym, ap, ◌∙◌}
use Rattle.std.specs.Prelude.{option_map}
use Rattle.jexl_parser.specs.View.{view}
use Rattle.jexl_parser.specs.declared.expression.Expr.{Expr}
use Rattle.enrol_evolver.specs.Targeting.{tree_of}
use Rattle.enrol_evolver.proofs.Results.{if_ok}
use Rattle.enrol_evolver.proofs.Saying.{says_tree}
use Rattle.enrol_evolver.proofs.targeting.said_by.Goals as goal

pub returns-clause-says : goal.returns-clause-says
returns-clause-says g c =
    let tree = view c.in-Some.expression.root in
    let there : Some tree ≡ tree_of c.args.text.now = sym (ap (option_map (λ (e : Expr). view e.root)) c.in-Some.is) ∙ c.in_ok-expression.ensures in
    let context = c.args.client.now.context.now in
    let now = c.args.client.now.moment in
    let given = c.in_ok-set_already_enrolled.ensures.gives context now c.requires.ready.0 in
    if_ok c.said.result _ _ (says_tree context c.args.client.now.state.now c.args.slug.now now tree (tree_of c.args.text.now) _ _ there c.requires.ready.1 given) (c.said.ensures _ c.eval_truth-truth.ensures)
