use Rattle.std.proofs.Common.{◌++◌, [], length, ap, ◌∙◌, arith}
use Rattle.std.proofs.lemmas.List.{length-append}
use Rattle.std.specs.Prelude.{if◌then◌else◌}
use Rattle.row_batches.specs.Rows.{after_changes}
use Rattle.row_batches.specs.Trees.{rows_in}
use Rattle.row_batches.proofs.Found.{rise_cleared, most_cleared, rise_given_batch, room_given}
use Rattle.row_batches.proofs.room.apply_batch.Goals as goal

pub stand-tree-requires-clause-enough : goal.stand-tree-requires-clause-enough
stand-tree-requires-clause-enough c =
    let listed = c.clear_where-tree.new.listed.items in
    let standing = rows_in c.clear_where-tree.result in
    let most = most_cleared c.is_clear.result (c.args.listed.now.items ++ rows_in c.args.tree) (listed ++ standing) c.clear_where-tree.ensures.rows in
    let more = length-append listed standing in
    let count = c.clear_where-tree.ensures.count in
    let enough = c.requires.enough in
    omega (arith, most, more, count, enough)

pub take_changes-requires-clause-rise : goal.take_changes-requires-clause-rise
take_changes-requires-clause-rise c =
    rise_cleared c.is_clear.result (c.args.listed.now.items ++ rows_in c.args.tree) (rows_in c.stand-tree.result) c.requires.sound.rise (c.stand-tree.ensures.rows ∙ c.clear_where-tree.ensures.rows)

pub take_changes-requires-clause-enough : goal.take_changes-requires-clause-enough
take_changes-requires-clause-enough c =
    let before = c.args.listed.now.items ++ rows_in c.args.tree in
    let cleared = c.clear_where-tree.new.listed.items ++ rows_in c.clear_where-tree.result in
    let most = most_cleared c.is_clear.result before cleared c.clear_where-tree.ensures.rows in
    let stood = ap length c.stand-tree.ensures.rows in
    let count = c.clear_where-tree.ensures.count in
    let stood_count = c.stand-tree.ensures.count in
    let changes = ap length c.into_changes.ensures.changes in
    let enough = c.requires.enough in
    omega (arith, most, stood, count, stood_count, changes, enough)

pub returns-clause-rows : goal.returns-clause-rows
returns-clause-rows c =
    let before = c.args.listed.now.items ++ rows_in c.args.tree in
    c.take_changes.ensures.rows ∙ ap (λ cs. after_changes cs (rows_in c.stand-tree.result)) c.into_changes.ensures.changes
    ∙ ap (λ rs. after_changes c.args.batch.changes rs) (c.stand-tree.ensures.rows ∙ c.clear_where-tree.ensures.rows ∙ ap (λ b. if b then [] else before) c.is_clear.ensures)

pub returns-clause-sound : goal.returns-clause-sound
returns-clause-sound c =
    let before = c.args.listed.now.items ++ rows_in c.args.tree in
    let rows = c.take_changes.ensures.rows ∙ ap (λ cs. after_changes cs (rows_in c.stand-tree.result)) c.into_changes.ensures.changes
    ∙ ap (λ rs. after_changes c.args.batch.changes rs) (c.stand-tree.ensures.rows ∙ c.clear_where-tree.ensures.rows ∙ ap (λ b. if b then [] else before) c.is_clear.ensures) in
    record {
      rise = rise_given_batch c.args.batch before (rows_in c.take_changes.new.tree) c.requires.sound.rise rows;
      fields = room_given c.args.batch before (rows_in c.take_changes.new.tree) c.into_changes.ensures.rules c.requires.sound.fields rows;
    }
