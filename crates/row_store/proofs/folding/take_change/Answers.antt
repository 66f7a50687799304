use Rattle.std.proofs.Common.{sym, ap, ◌∙◌}
use Rattle.row_batches.specs.declared.change.RowChange.{RowChange}
use Rattle.row_batches.specs.Rows.{after_change, without_key}
use Rattle.row_store.specs.Listing.{rows_in}
use Rattle.row_store.proofs.Listed.{put_in, deleted_in, rise_put, rise_deleted}
use Rattle.row_store.proofs.folding.take_change.Goals as goal

pub returns-in_ok-insert-in-Put-clause-rows : goal.returns-in_ok-insert-in-Put-clause-rows
returns-in_ok-insert-in-Put-clause-rows c =
    let old = c.args.tree.now.entries in
    put_in old c.insert.new.self.entries c.into_vec.result c.in-Put.row c.into_vec.ensures c.in_ok-insert-in-Put.ensures.entries ∙ sym (ap (λ (change : RowChange). after_change change (rows_in old)) c.in-Put.is)

pub returns-in_ok-insert-in-Put-clause-rise : goal.returns-in_ok-insert-in-Put-clause-rise
returns-in_ok-insert-in-Put-clause-rise c =
    rise_put c.args.tree.now.entries c.insert.new.self.entries c.into_vec.result c.in-Put.row c.requires.rise c.into_vec.ensures c.in_ok-insert-in-Put.ensures.entries

pub returns-in-Delete-clause-rows : goal.returns-in-Delete-clause-rows
returns-in-Delete-clause-rows c =
    let old = c.args.tree.now.entries in
    deleted_in old c.remove.new.self.entries c.as_slice.result.now c.requires.rise c.remove.ensures.entries ∙ ap (λ key. without_key key (rows_in old)) c.as_slice.ensures
    ∙ sym (ap (λ (change : RowChange). after_change change (rows_in old)) c.in-Delete.is)

pub returns-in-Delete-clause-rise : goal.returns-in-Delete-clause-rise
returns-in-Delete-clause-rise c = rise_deleted c.args.tree.now.entries c.remove.new.self.entries c.as_slice.result.now c.requires.rise c.remove.ensures.entries
