-- The features' rows alone.
use Rattle.std.proofs.Common.{◌++◌, ◌∷◌, [], ◌∙◌, ap, map}
use Rattle.state_codec.specs.Encoding.{key_row, first_rows}
use Rattle.state_codec.proofs.rows.first_rows_of.Goals as goal

pub returns : goal.returns
unfolding first_rows
returns c =
    c.in_ok-add_rows.ensures
    ∙ ap (λ xs. c.new-rows.result ++ map (key_row (99 ∷ [])) xs) c.as_slice.ensures
    ∙ ap (λ l. l ++ first_rows c.args.state.now) c.new-rows.ensures
