use Rattle.std.proofs.Common.{refl}
use Rattle.row_batches.specs.Between.{between}
use Rattle.row_batches.proofs.Walks.{applied_between}
use Rattle.row_batches.proofs.laws.between_makes.Goals as goal

pub returns : goal.returns
returns c = λ olds news old_rise new_rise. applied_between olds news (between olds news) old_rise new_rise refl
