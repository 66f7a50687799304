use Rattle.jexl_transforms.proofs.Names.{needs_no_attributes}
use Rattle.jexl_transforms.proofs.laws.some_need_no_attributes.Goals as goal

pub returns : goal.returns
returns c = needs_no_attributes
