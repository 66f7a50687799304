use Rattle.std.proofs.Common.{subst}
use Rattle.fml_imports.specs.Held.{held}
use Rattle.fml_imports.specs.Merging.{with_new}
use Rattle.fml_imports.specs.Outcome.{Leaves, each}
use Rattle.fml_imports.proofs.Gathered.{objects_left}
use Rattle.fml_imports.proofs.tables.TablesByName.add_objects.Goals as goal

pub returns : goal.returns
returns c =
    let self = c.args.self.now in
    objects_left (held self) c.args.objects.now c.merge.new.names c.merge.result (subst (λ own. Leaves c.merge.new.names c.merge.result (each (with_new self.enums) self.objects own)) c.taken-own.ensures c.merge.ensures)
