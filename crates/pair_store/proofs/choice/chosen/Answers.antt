use Rattle.std.proofs.Common.{subst}
use Rattle.host_model.specs.declared.side.Side.TheVariants.{Left}
use Rattle.pair_store.specs.Choice.{IsFound}
use Rattle.pair_store.proofs.Choosing.{damaged_bad}
use Rattle.pair_store.proofs.choice.chosen.Goals as goal

pub returns-in-Empty-clause-answer : goal.returns-in-Empty-clause-answer
returns-in-Empty-clause-answer c l r left right = c.beside_empty.ensures.answer l r (subst (λ f. IsFound Left l f) c.in-Empty.is left) right

pub returns-in-Damaged-clause-answer : goal.returns-in-Damaged-clause-answer
returns-in-Damaged-clause-answer c l r left right = damaged_bad l r Left (subst (λ f. IsFound Left l f) c.in-Damaged.is left)
