-- The part's rows rise, and their changes are those of all rows.
use Rattle.std.proofs.Common.{◌≡◌, List, ap, ap₂, subst, sym, ◌∙◌}
use Rattle.state_codec.proofs.Encoded.{if_ok_weaker}
use Rattle.enrol_states.specs.Order.{Rise}
use Rattle.enrol_states.specs.State.{slugs_of}
use Rattle.enrol_states.specs.declared.state.Row.{Row}
use Rattle.change_outbox.specs.Changes.{changes_between}
use Rattle.change_outbox.specs.Contents.{numbered}
use Rattle.change_outbox.specs.declared.change.Change.{Change}
use Rattle.sequences.specs.ListParts.{part_of_new, part_of_old}
use Rattle.client_state.proofs.PartChanges.{new_part_rises, old_part_rises, part_told}
use Rattle.client_state.proofs.following.enrolment_changes.Goals as goal

pub changes_of-requires-clause-old_rows : goal.changes_of-requires-clause-old_rows
changes_of-requires-clause-old_rows c =
    let s = c.args.old.now in
    let t = c.args.next.now.state in
    let part = c.row_part-part.result in
    subst (λ (rs : List Row). Rise (slugs_of rs)) (sym (c.of_old.ensures ∙ ap (part_of_old part) c.as_slice.ensures))
    (old_part_rises part s.rows t.rows c.row_part-part.ensures c.requires.old_state.row_order c.requires.next.consistent.row_order)

pub changes_of-requires-clause-new_rows : goal.changes_of-requires-clause-new_rows
changes_of-requires-clause-new_rows c =
    let s = c.args.old.now in
    let t = c.args.next.now.state in
    let part = c.row_part-part.result in
    subst (λ (rs : List Row). Rise (slugs_of rs)) (sym (c.of_new.ensures ∙ ap (part_of_new part) c.as_slice-2.ensures))
    (new_part_rises part s.rows t.rows c.row_part-part.ensures c.requires.old_state.row_order c.requires.next.consistent.row_order)

pub returns : goal.returns
returns c =
    let s = c.args.old.now in
    let t = c.args.next.now.state in
    let part = c.row_part-part.result in
    let olds = c.of_old.ensures ∙ ap (part_of_old part) c.as_slice.ensures in
    let news = c.of_new.ensures ∙ ap (part_of_new part) c.as_slice-2.ensures in
    let told = part_told part s.rows t.rows c.row_part-part.ensures c.requires.old_state.row_order c.requires.next.consistent.row_order in
    let same = ap₂ (λ (xs ys : List Row). numbered 0 (changes_between xs ys)) olds news ∙ ap (λ (cs : List Change). numbered 0 cs) told in
    if_ok_weaker (λ (cs : List Change). cs ≡ numbered 0 (changes_between c.of_old.result.now c.of_new.result.now)) (λ (cs : List Change). cs ≡ numbered 0 (changes_between s.rows t.rows)) c.changes_of.result (λ cs is. is ∙ same) c.changes_of.ensures
