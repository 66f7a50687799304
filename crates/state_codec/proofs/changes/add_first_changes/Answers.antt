-- The features' changes alone.
use Rattle.std.proofs.Common.{List, ℕ, ◌++◌, ◌∷◌, [], ◌∙◌, ap₂, map}
use Rattle.std.proofs.lemmas.Result.{on_ok_weaker}
use Rattle.row_batches.specs.Between.{changes_between}
use Rattle.state_codec.specs.Encoding.{key_row, first_rows}
use Rattle.state_codec.proofs.changes.add_first_changes.Goals as goal

pub returns : goal.returns
unfolding first_rows
returns c =
    on_ok_weaker c.add_changes.result
    (λ added. added ∙ ap₂ (λ (olds news : List (List ℕ)). c.args.changes.now ++ changes_between (map (key_row (99 ∷ [])) olds) (map (key_row (99 ∷ [])) news)) c.as_slice.ensures c.as_slice-2.ensures)
    c.add_changes.ensures
