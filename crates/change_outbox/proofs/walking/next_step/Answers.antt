use Rattle.std.proofs.Common.{rules, ◌≡◌, ◌<◌, length, Less, Greater}
use Rattle.sequences.proofs.Rising.{all_above}
use Rattle.recipe_reader.specs.Payloads.{slug_cmp}
use Rattle.enrol_states.proofs.Ordered.{turned_down}
use Rattle.enrol_states.proofs.Lookups.{slug_of}
use Rattle.change_outbox.proofs.Turns.{none_left}
use Rattle.change_outbox.proofs.walking.next_step.Goals as goal

pub step_of_old-requires-in-Less-clause-least : goal.step_of_old-requires-in-Less-clause-least
step_of_old-requires-in-Less-clause-least c =
    let less : slug_cmp c.old-item-2.result.slug c.new-item-2.result.slug ≡ Less = search rules in
    let some : 0 < length c.args.news.now = search rules in
    all_above slug_of c.old-item-2.result.slug c.args.news.now c.new-item-2.result some c.new-item-2.is less c.requires.new_rows

pub step_of_new-requires-in-Greater-clause-least : goal.step_of_new-requires-in-Greater-clause-least
step_of_new-requires-in-Greater-clause-least c =
    let greater : slug_cmp c.old-item-2.result.slug c.new-item-2.result.slug ≡ Greater = search rules in
    let some : 0 < length c.args.olds.now = search rules in
    all_above slug_of c.new-item-2.result.slug c.args.olds.now c.old-item-2.result some c.old-item-2.is (turned_down c.old-item-2.result.slug c.new-item-2.result.slug greater) c.requires.old_rows

pub returns-in-empty-empty-clause-end : goal.returns-in-empty-empty-clause-end
returns-in-empty-empty-clause-end c = λ none. none_left c.args.olds.now c.args.news.now (search rules) (search rules)
