-- The id's change, then those of the recipes, of opted-out slugs, of the statuses, and the last.
use Rattle.std.proofs.lemmas.Result.{on_ok_weaker}
use Rattle.state_values.specs.Values.{participation_byte}
use Rattle.state_codec.proofs.Joined.{all_behind, last_added, later_added, statuses_added}
use Rattle.state_codec.proofs.changes.add_later_changes.Goals as goal

pub returns : goal.returns
returns c =
    let s = c.args.old.now in
    let t = c.args.new.now in
    let b = participation_byte s in
    let d = participation_byte t in
    let statuses = statuses_added b d s t c.add_opted_out.new.changes c.add_single-2.new.changes c.add_single-3.new.changes c.add_client_rows.new.changes c.in_ok-add_single-2.ensures c.in_ok-add_single-3.ensures c.in_ok-add_client_rows.ensures in
    on_ok_weaker c.add_single-6.result
    (λ version.
    let last = last_added s t c.add_client_rows.new.changes c.add_single-4.new.changes c.add_single-5.new.changes c.add_single-6.new.changes c.in_ok-add_single-4.ensures c.in_ok-add_single-5.ensures version in
    let behind = all_behind b d s t c.add_recipes.new.changes c.add_opted_out.new.changes c.add_client_rows.new.changes c.add_single-6.new.changes c.in_ok-add_opted_out.ensures statuses last in
    later_added b d s t c.args.changes.now c.add_single.new.changes c.add_recipes.new.changes c.add_single-6.new.changes c.in_ok-add_single.ensures c.in_ok-add_recipes.ensures behind)
    c.add_single-6.ensures
