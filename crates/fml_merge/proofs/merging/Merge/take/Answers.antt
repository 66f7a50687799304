use Rattle.std.proofs.Common.{◌++◌, map, ap, ◌∙◌}
use Rattle.fml_value.specs.TypedOf.{entry_of}
use Rattle.fml_merge.specs.Merging.{merged_in, lower, upper, named, unnamed}
use Rattle.fml_merge.proofs.Merge.{lower-map, upper-map, named-map, unnamed-map, map_join}
use Rattle.fml_merge.proofs.merging.Merge.take.Goals as goal

pub returns-clause-merged : goal.returns-clause-merged
returns-clause-merged c =
    let name = c.args.name.now in
    let m = c.args.self.now in
    ap (map entry_of) c.in_ok-move_below.ensures.merged ∙ map_join m.merged.items (lower name m.left.items) ∙ ap (λ l. merged_in m ++ l) (lower-map name m.left.items)

pub returns-clause-left : goal.returns-clause-left
returns-clause-left c =
    let name = c.args.name.now in
    let left = c.args.self.now.left.items in
    ap (map entry_of) (c.take_named.ensures.left ∙ ap (unnamed name) c.in_ok-move_below.ensures.left) ∙ unnamed-map name (upper name left) ∙ ap (unnamed name) (upper-map name left)

pub returns-clause-taken : goal.returns-clause-taken
returns-clause-taken c =
    let name = c.args.name.now in
    let left = c.args.self.now.left.items in
    ap (map entry_of) (c.take_named.ensures.taken ∙ ap (named name) c.in_ok-move_below.ensures.left) ∙ named-map name (upper name left) ∙ ap (named name) (upper-map name left)
