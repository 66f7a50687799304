use Rattle.std.proofs.Common.{subst}
use Rattle.host_model.specs.declared.side.Side.TheVariants.{Right}
use Rattle.pair_store.specs.Choice.{IsFound}
use Rattle.pair_store.proofs.Choosing.{damaged_bad}
use Rattle.pair_store.proofs.choice.beside_shut.Goals as goal

pub returns-in-Damaged-clause-answer : goal.returns-in-Damaged-clause-answer
returns-in-Damaged-clause-answer c l r shut found = damaged_bad l r Right (subst (λ f. IsFound Right r f) c.in-Damaged.is found)
