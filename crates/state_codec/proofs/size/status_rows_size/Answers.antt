-- The part's old rows go, and its new ones come.
use Rattle.std.proofs.Common.{List, ◌∙◌, ap}
use Rattle.enrol_states.specs.declared.state.Row.{Row}
use Rattle.sequences.specs.ListParts.{part_of_new, part_of_old}
use Rattle.state_codec.specs.Sizes.{rows_size}
use Rattle.state_codec.specs.Encoding.{status_row}
use Rattle.state_codec.proofs.ListParts.{removed_short, size_after}
use Rattle.state_codec.proofs.size.status_rows_size.Goals as goal

pub overflow_sub-result : goal.overflow_sub-result
overflow_sub-result c =
    let part = c.row_part-part.result in
    let olds = c.of_old.ensures ∙ ap (part_of_old part) c.as_slice.ensures in
    removed_short status_row part c.args.old.now.rows c.args.new.now.rows c.row_part-part.ensures c.args.before c.client_rows_size-removed.result c.requires.before
    (c.client_rows_size-removed.ensures.size ∙ ap (λ (rows : List Row). rows_size rows) olds)

pub returns-clause-size : goal.returns-clause-size
returns-clause-size c =
    let part = c.row_part-part.result in
    let olds = c.of_old.ensures ∙ ap (part_of_old part) c.as_slice.ensures in
    let news = c.of_new.ensures ∙ ap (part_of_new part) c.as_slice-2.ensures in
    size_after status_row part c.args.old.now.rows c.args.new.now.rows c.row_part-part.ensures c.args.before c.client_rows_size-removed.result c.requires.before
    (c.client_rows_size-removed.ensures.size ∙ ap (λ (rows : List Row). rows_size rows) olds) c.client_rows_size-added.result
    (c.client_rows_size-added.ensures.size ∙ ap (λ (rows : List Row). rows_size rows) news)
