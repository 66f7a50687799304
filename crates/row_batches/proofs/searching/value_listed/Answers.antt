use Rattle.std.proofs.Common.{Some, sym, ap, ◌∙◌}
use Rattle.row_batches.proofs.Found.{value_there, value_nowhere}
use Rattle.row_batches.proofs.searching.value_listed.Goals as goal

pub returns-in-Ok : goal.returns-in-Ok
returns-in-Ok c = ap Some c.as_slice.ensures ∙ sym (value_there c.args.key.now c.args.rows.now c.in-Ok.place c.index-rows-place.result c.requires c.in-Ok.ensures.found)

pub returns-in-Err : goal.returns-in-Err
returns-in-Err c = sym (value_nowhere c.args.key.now c.args.rows.now c.in-Err.field-0 c.in-Err.ensures.missed)
