use Rattle.std.proofs.Common.{map, ap, ◌∙◌, subst}
use Rattle.fml_imports.specs.Held.{held}
use Rattle.fml_imports.specs.Merging.{with_new}
use Rattle.fml_imports.specs.Outcome.{Leaves, each}
use Rattle.fml_imports.specs.Tables.{feature_for}
use Rattle.fml_imports.proofs.Gathered.{features_left}
use Rattle.fml_imports.proofs.tables.TablesByName.add_features.Goals as goal

pub returns : goal.returns
returns c =
    let self = c.args.self.now in
    let counts = map (feature_for c.args.asked.now c.args.channel.now) in
    features_left (held self) (counts c.args.features.now) c.merge.new.names c.new-none.result c.merge.result c.new-none.ensures
    (subst (λ own. Leaves c.merge.new.names c.merge.result (each (with_new c.new-none.result) self.features own)) (c.in_ok-counted.ensures ∙ ap counts c.taken-own.ensures) c.merge.ensures)
