use Rattle.std.proofs.Common.{Less, Equal, Greater, ◌≡◌, sym, ◌∙◌, subst}
use Rattle.row_batches.specs.Rows.{key_cmp}
use Rattle.row_batches.specs.declared.change.RowChange.{RowChange}
use Rattle.row_batches.specs.declared.store_row.StoreRow.{StoreRow}
use Rattle.row_batches.proofs.Merged.{at_less, at_same, at_same_merge, at_greater, at_no_rows, at_no_changes}
use Rattle.row_batches.proofs.merging.next_merge.Goals as goal

pub change_merge-requires : goal.change_merge-requires
change_merge-requires c = at_no_rows c.args.changes.now c.args.rows.now c.in-Some.change.now c.in-Some.changes_left.now c.in-Some.ensures.some c.in-None-first_row-2.ensures.none c.requires

pub returns-in-Some-first_row : goal.returns-in-Some-first_row
returns-in-Some-first_row c = at_no_changes c.args.changes.now c.args.rows.now c.in-Some-first_row.row.now c.in-Some-first_row.rows_left.now c.in-None.ensures.none c.in-Some-first_row.ensures.some c.requires

pub change_merge-requires-in-Less : goal.change_merge-requires-in-Less
change_merge-requires-in-Less c =
    let change : RowChange = c.in-Some.change.now in
    let row : StoreRow = c.in-Some-first_row-2.row.now in
    let cmp = subst (λ k. key_cmp k row.key ≡ Less) c.key.ensures (subst (λ k. key_cmp c.key.result.now k ≡ Less) c.as_slice.ensures (sym c.cmp.ensures ∙ c.in-Less.is)) in
    at_less c.args.changes.now c.args.rows.now change c.in-Some.changes_left.now row c.in-Some-first_row-2.rows_left.now c.in-Some.ensures.some c.in-Some-first_row-2.ensures.some c.requires cmp

pub change_merge-requires-in-Equal : goal.change_merge-requires-in-Equal
change_merge-requires-in-Equal c =
    let change : RowChange = c.in-Some.change.now in
    let row : StoreRow = c.in-Some-first_row-2.row.now in
    let cmp = subst (λ k. key_cmp k row.key ≡ Equal) c.key.ensures (subst (λ k. key_cmp c.key.result.now k ≡ Equal) c.as_slice.ensures (sym c.cmp.ensures ∙ c.in-Equal.is)) in
    at_same c.args.changes.now c.args.rows.now change c.in-Some.changes_left.now row c.in-Some-first_row-2.rows_left.now c.in-Some.ensures.some c.in-Some-first_row-2.ensures.some c.requires cmp

pub returns-in-Equal : goal.returns-in-Equal
returns-in-Equal c =
    let change : RowChange = c.in-Some.change.now in
    let row : StoreRow = c.in-Some-first_row-2.row.now in
    let cmp = subst (λ k. key_cmp k row.key ≡ Equal) c.key.ensures (subst (λ k. key_cmp c.key.result.now k ≡ Equal) c.as_slice.ensures (sym c.cmp.ensures ∙ c.in-Equal.is)) in
    at_same_merge c.args.changes.now c.args.rows.now change c.in-Some.changes_left.now row c.in-Some-first_row-2.rows_left.now c.in-Some.ensures.some c.in-Some-first_row-2.ensures.some c.requires c.change_merge-in-Equal.result cmp c.change_merge-in-Equal.ensures

pub returns-in-Greater : goal.returns-in-Greater
returns-in-Greater c =
    let change : RowChange = c.in-Some.change.now in
    let row : StoreRow = c.in-Some-first_row-2.row.now in
    let cmp = subst (λ k. key_cmp k row.key ≡ Greater) c.key.ensures (subst (λ k. key_cmp c.key.result.now k ≡ Greater) c.as_slice.ensures (sym c.cmp.ensures ∙ c.in-Greater.is)) in
    at_greater c.args.changes.now c.args.rows.now change c.in-Some.changes_left.now row c.in-Some-first_row-2.rows_left.now c.in-Some.ensures.some c.in-Some-first_row-2.ensures.some c.requires cmp
