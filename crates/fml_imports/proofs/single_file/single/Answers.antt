use Rattle.fml_imports.proofs.Alone.{reads_back, stays_shallow, text_reads_back}
use Rattle.fml_imports.proofs.single_file.single.Goals as goal

pub returns-clause-reads_back : goal.returns-clause-reads_back
returns-clause-reads_back c = reads_back c.args.manifest.now c.in_ok-tree.tree c.in_ok-tree.ensures

pub returns-clause-shallow : goal.returns-clause-shallow
returns-clause-shallow c = stays_shallow c.args.manifest.now c.in_ok-tree.tree c.in_ok-tree.ensures

pub returns-clause-text_reads_back : goal.returns-clause-text_reads_back
returns-clause-text_reads_back c = text_reads_back c.args.manifest.now c.in_ok-tree.tree c.in_ok-tree.ensures c.keeps.ensures.sound
