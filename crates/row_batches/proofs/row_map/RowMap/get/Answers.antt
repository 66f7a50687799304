use Rattle.std.proofs.Common.{sym, ap, ◌∙◌, subst}
use Rattle.row_batches.specs.RowRoom.{RowsInRoom}
use Rattle.row_batches.specs.Rows.{AreRows, value_of}
use Rattle.row_batches.specs.Trees.{rows_in}
use Rattle.row_batches.proofs.Sides.{rise_front, none_listed, some_listed, value_standing, value_listed}
use Rattle.row_batches.proofs.row_map.RowMap.get.Goals as goal

pub returns-then-is_empty : goal.returns-then-is_empty
returns-then-is_empty c =
    let listed = c.self.inside.listed in
    let key = c.args.key.now in
    let none = none_listed listed.items listed.len listed.ok.0 (sym c.is_empty.ensures ∙ c.if-is_empty.true) in
    c.value_in.ensures ∙ value_standing key listed.items (rows_in c.self.inside.tree) none ∙ ap (λ (m : RowsInRoom). value_of key m.rows) c.self.view_is

pub value_listed-requires : goal.value_listed-requires
value_listed-requires c = subst AreRows (sym c.as_slice-rows.ensures.value) (rise_front c.self.inside.listed.items (rows_in c.self.inside.tree) c.self.invariant.sound.rise)

pub returns : goal.returns
returns c =
    let listed = c.self.inside.listed in
    let key = c.args.key.now in
    let some = some_listed listed.items listed.len listed.ok.0 (sym c.is_empty.ensures ∙ c.if-is_empty.false) in
    c.value_listed.ensures ∙ ap (value_of key) c.as_slice-rows.ensures.value ∙ value_listed key listed.items (rows_in c.self.inside.tree) c.self.invariant.alone some ∙ ap (λ (m : RowsInRoom). value_of key m.rows) c.self.view_is
