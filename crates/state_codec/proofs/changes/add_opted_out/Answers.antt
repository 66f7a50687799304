-- The rows of the part alone change.
use Rattle.std.proofs.Common.{List, ℕ, ◌++◌, ◌∷◌, [], ◌∙◌, ap, ap₂, map}
use Rattle.std.proofs.lemmas.Result.{on_ok_weaker}
use Rattle.row_batches.specs.Between.{changes_between}
use Rattle.row_batches.specs.declared.change.RowChange.{RowChange}
use Rattle.sequences.specs.ListParts.{part_of_old, part_of_new}
use Rattle.state_codec.specs.Encoding.{key_row}
use Rattle.state_codec.proofs.KeyOrder.{opted_out_rise}
use Rattle.state_codec.proofs.ListParts.{part_alone}
use Rattle.state_codec.proofs.changes.add_opted_out.Goals as goal

pub returns : goal.returns
returns c =
    let s = c.args.old.now in
    let t = c.args.new.now in
    let part = c.opted_out_part-part.result in
    let olds = c.of_old.ensures ∙ ap (part_of_old part) c.as_slice.ensures in
    let news = c.of_new.ensures ∙ ap (part_of_new part) c.as_slice-2.ensures in
    let alone = part_alone (key_row (111 ∷ [])) part s.opted_out t.opted_out c.opted_out_part-part.ensures (opted_out_rise s c.requires.old_state) (opted_out_rise t c.requires.new_state) in
    on_ok_weaker c.add_changes.result
    (λ last. last ∙ ap₂ (λ (xs ys : List (List ℕ)). c.args.changes.now ++ changes_between (map (key_row (111 ∷ [])) xs) (map (key_row (111 ∷ [])) ys)) olds news ∙ ap (λ (cs : List RowChange). c.args.changes.now ++ cs) alone)
    c.add_changes.ensures
