-- The first rows and the later ones are all, and are in the order of their keys.
use Rattle.std.proofs.Common.{List, ℕ, ◌++◌, ◌∙◌, ap₂, sym, subst}
use Rattle.row_batches.specs.Rows.{AreRows}
use Rattle.row_batches.specs.declared.store_row.StoreRow.{StoreRow}
use Rattle.state_codec.specs.Encoding.{later_rows, rows_with}
use Rattle.state_codec.proofs.KeyOrder.{rows_rise}
use Rattle.state_codec.proofs.rows.rows_of.Goals as goal

pub returns-clause-rows : goal.returns-clause-rows
unfolding rows_with
returns-clause-rows c =
    let s = c.args.state.now in
    c.in_ok-add_later.ensures ∙ ap₂ (λ (first : List StoreRow) (byte : ℕ). first ++ later_rows byte s) c.in_ok-rows.ensures c.participation_byte.ensures

pub returns-clause-order : goal.returns-clause-order
returns-clause-order c = subst AreRows (sym (returns-clause-rows c)) (rows_rise c.args.state.now c.requires)
