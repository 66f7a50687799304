use Rattle.json_tree.specs.Tree.{json_of}
use Rattle.fml_link.proofs.files.module_in.Goals as goal

pub returns-in-Ok-clause-read : goal.returns-in-Ok-clause-read
returns-in-Ok-clause-read c = record { tree = json_of c.args.tree.now; sound = c.keeps.ensures.sound; shallow = c.requires; reads = c.in-Ok.ensures }
