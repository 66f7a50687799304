-- The rows of the part alone change.
use Rattle.std.proofs.Common.{List, ◌++◌, ◌∙◌, All, ap, ap₂, map, subst, sym}
use Rattle.std.proofs.lemmas.Result.{on_ok_weaker}
use Rattle.enrol_states.specs.Statuses.{IsStatus}
use Rattle.enrol_states.specs.declared.state.Row.{Row}
use Rattle.row_batches.specs.Between.{changes_between}
use Rattle.row_batches.specs.declared.change.RowChange.{RowChange}
use Rattle.sequences.specs.ListParts.{part_of_old, part_of_new}
use Rattle.state_codec.specs.Encoding.{status_row}
use Rattle.state_codec.proofs.KeyOrder.{client_rows_rise}
use Rattle.state_codec.proofs.ListParts.{part_alone, part_of_all}
use Rattle.state_codec.proofs.changes.add_client_rows.Goals as goal

pub add_changes-requires-clause-old_items : goal.add_changes-requires-clause-old_items
add_changes-requires-clause-old_items c =
    let s = c.args.old.now in
    let part = c.row_part-part.result in
    subst (All (λ (w : Row). IsStatus w.status)) (sym (c.of_old.ensures ∙ ap (part_of_old part) c.as_slice.ensures))
    (part_of_all (λ (w : Row). IsStatus w.status) s.rows part.start _ c.requires.old_state.row_statuses)

pub add_changes-requires-clause-new_items : goal.add_changes-requires-clause-new_items
add_changes-requires-clause-new_items c =
    let t = c.args.new.now in
    let part = c.row_part-part.result in
    subst (All (λ (w : Row). IsStatus w.status)) (sym (c.of_new.ensures ∙ ap (part_of_new part) c.as_slice-2.ensures))
    (part_of_all (λ (w : Row). IsStatus w.status) t.rows part.start _ c.requires.new_state.row_statuses)

pub returns : goal.returns
returns c =
    let s = c.args.old.now in
    let t = c.args.new.now in
    let part = c.row_part-part.result in
    let olds = c.of_old.ensures ∙ ap (part_of_old part) c.as_slice.ensures in
    let news = c.of_new.ensures ∙ ap (part_of_new part) c.as_slice-2.ensures in
    let alone = part_alone status_row part s.rows t.rows c.row_part-part.ensures (client_rows_rise s c.requires.old_state) (client_rows_rise t c.requires.new_state) in
    on_ok_weaker c.add_changes.result
    (λ last. last ∙ ap₂ (λ (xs ys : List Row). c.args.changes.now ++ changes_between (map status_row xs) (map status_row ys)) olds news ∙ ap (λ (cs : List RowChange). c.args.changes.now ++ cs) alone)
    c.add_changes.ensures
