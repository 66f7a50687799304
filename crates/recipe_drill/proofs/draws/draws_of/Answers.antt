-- The first record's draws, and those of the others.
use Rattle.std.proofs.Common.{rules, ◌≡◌, ◌≢◌, ◌∙◌}
use Rattle.recipe_drill.proofs.Drawing.{first_draws, other_draws}
use Rattle.recipe_drill.proofs.draws.draws_of.Goals as goal

pub returns-then-index-eq0-clause-draws : goal.returns-then-index-eq0-clause-draws
returns-then-index-eq0-clause-draws c =
    let first : c.args.index ≡ 0 = search (rules, c.if-index-eq0.true) in
    first_draws c.args.start c.args.index first c.five_draws-drawn.ensures.draws

pub returns-else-index-eq0-clause-draws : goal.returns-else-index-eq0-clause-draws
returns-else-index-eq0-clause-draws c =
    let other : c.args.index ≢ 0 = search (rules, c.if-index-eq0.false) in
    c.five_draws-drawn.ensures.draws ∙ other_draws c.args.start c.args.index other
