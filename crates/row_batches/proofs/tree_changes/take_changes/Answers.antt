use Rattle.std.proofs.Common.{rules, ◌≡◌, ◌∷◌, List, length, sym, ap, ◌∙◌, arith}
use Rattle.row_batches.specs.Rows.{after_change, after_changes}
use Rattle.row_batches.specs.Trees.{rows_in}
use Rattle.row_batches.specs.declared.change.RowChange.{RowChange}
use Rattle.row_batches.specs.declared.store_row.StoreRow.{StoreRow}
use Rattle.row_batches.proofs.Found.{rise_given}
use Rattle.row_batches.proofs.tree_changes.take_changes.Goals as goal

pub loop-change-preserved : goal.loop-change-preserved
loop-change-preserved c =
    let change : RowChange = c.in-Some.change in
    let before : List StoreRow = rows_in c.loop-change.tree in
    let after : List StoreRow = rows_in c.take_change.new.tree in
    let left : List RowChange = c.loop-change.change-iterator.rest.items in
    let rest : List RowChange = c.next.new.self.rest.items in
    let first : left ≡ change ∷ rest = search rules in
    let taken : after ≡ after_change change before = c.take_change.ensures.rows in
    let fewer = ap length first in
    let most = c.take_change.ensures.most in
    let enough = c.loop-change.invariant.enough in
    record {
      same = ap (λ (l : List StoreRow). after_changes rest l) taken ∙ ap (λ (l : List RowChange). after_changes l before) (sym first) ∙ c.loop-change.invariant.same;
      rise = rise_given change before after c.loop-change.invariant.rise taken;
      enough = omega (arith, fewer, most, enough);
      count = c.take_change.ensures.count ∙ c.loop-change.invariant.count;
      same_room = c.take_change.ensures.same_room ∙ c.loop-change.invariant.same_room;
    }
