use Rattle.std.proofs.Common.{◌∙◌}
use Rattle.fml_link.proofs.MetFiles.{is_met}
use Rattle.fml_link.proofs.names.FileList.is_met.Goals as goal

pub returns : goal.returns
returns c = c.contains_key.ensures ∙ is_met c.args.name.now c.args.self.now.channels c.args.self.now.list c.requires
