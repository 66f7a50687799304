-- The old form is as long.
use Rattle.std.proofs.Common.{◌∙◌, sym}
use Rattle.state_codec.proofs.Sizes.{length-old}
use Rattle.state_codec.proofs.size.state_size.Goals as goal

pub returns-clause-old_size : goal.returns-clause-old_size
returns-clause-old_size c = c.sizes_of.ensures.sizes.total ∙ sym (length-old c.args.state.now)
