-- The rows of the parts, one behind the other.
use Rattle.std.proofs.Common.{◌++◌, ◌∙◌, ap, map, codes}
use Rattle.std.proofs.lemmas.Result.{on_ok_weaker}
use Rattle.state_values.specs.Values.{hyphenated}
use Rattle.state_codec.specs.Encoding.{row, key_row, recipe_row, status_rows, last_rows, pending_recipes, later_rows}
use Rattle.state_codec.proofs.Added.{follow, row_then}
use Rattle.state_codec.proofs.rows.add_later.Goals as goal

pub returns : goal.returns
unfolding later_rows
returns c =
    let s = c.args.state.now in
    let live = c.in_ok-add_rows.ensures ∙ ap (λ rs. c.push.new.self ++ map (recipe_row (codes "l")) rs) c.as_slice.ensures.recipes in
    let pending = c.in_ok-add_rows-2.ensures ∙ ap (λ rs. c.add_rows.new.rows ++ map (recipe_row (codes "n")) rs) c.pending_recipes.ensures in
    let opted_out = c.in_ok-add_rows-3.ensures ∙ ap (λ ss. c.add_rows-2.new.rows ++ map (key_row (codes "o")) ss) c.as_slice-2.ensures in
    on_ok_weaker c.add_last.result
    (λ last.
    (row_then (row (codes "i") (hyphenated s.id)) _ _ _ c.in_ok-push.ensures.ok c.in_ok-id_row.ensures
    (follow (map (recipe_row (codes "l")) s.live) _ _ live
    (follow (map (recipe_row (codes "n")) (pending_recipes s.pending)) _ _ pending
    (follow (map (key_row (codes "o")) s.opted_out) _ _ opted_out
    (follow (status_rows c.args.byte s) (last_rows s) _ c.in_ok-add_statuses.ensures
    last))))))
    c.add_last.ensures
