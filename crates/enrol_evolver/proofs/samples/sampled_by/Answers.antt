use Rattle.std.proofs.Common.{◌<◌, ◌≤◌, length, sum, sym, subst}
use Rattle.enrol_evolver.specs.Verdicts.{ratios_of}
use Rattle.enrol_evolver.proofs.Validity.{has_total, have_branches}
use Rattle.enrol_evolver.proofs.samples.sampled_by.Goals as goal

pub holds_point-requires-clause-total : goal.holds_point-requires-clause-total
holds_point-requires-clause-total c = has_total c.args.recipe.now c.requires

pub branch_at-requires-clause-few : goal.branch_at-requires-clause-few
branch_at-requires-clause-few c = subst (λ bs. length bs ≤ 100) (sym c.as_slice.ensures) (have_branches c.args.recipe.now c.requires).few

pub branch_at-requires-clause-shared : goal.branch_at-requires-clause-shared
branch_at-requires-clause-shared c = subst (λ bs. 0 < sum (ratios_of bs)) (sym c.as_slice.ensures) (have_branches c.args.recipe.now c.requires).shared
