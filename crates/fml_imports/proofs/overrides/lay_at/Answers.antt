use Rattle.fml_imports.proofs.Overriding.{laid_set}
use Rattle.fml_imports.proofs.overrides.lay_at.Goals as goal

pub returns : goal.returns
returns c = laid_set c.args.features.now.items c.args.place c.args.entries c.index_mut.result.now c.append.new.defaults c.requires c.index_mut.ensures.value c.in_ok-append.ensures
