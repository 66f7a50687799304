use Rattle.std.proofs.Common.{◌≡◌, ◌-◌, List, ℕ, length, take, drop, sym, ap, ◌∙◌, arith}
use Rattle.row_batches.specs.Batch.{puts_text}
use Rattle.change_outbox.specs.declared.change.Change.{Change}
use Rattle.change_outbox.specs.Contents.{Contents}
use Rattle.change_outbox.specs.Rows.{entry_rows}
use Rattle.change_outbox.proofs.Numbers.{left_confirmed, left_sound, none_confirmed}
use Rattle.change_outbox.proofs.RowSizes.{divided_size}
use Rattle.change_outbox.proofs.outbox.Outbox.confirm.Goals as goal

pub returns-then-left-count-clause-ok : goal.returns-then-left-count-clause-ok
returns-then-left-count-clause-ok c =
    let next : c.next-next.result ≡ c.args.self.now.next = c.next-next.ensures.next in
    c.in_ok-clone.ensures.cases ∙ none_confirmed c.args.self.now c.args.number c.entries-count.ensures.sound.numbered (omega (arith, next)) (omega (arith, next, ap length c.entries-count.ensures.entries))

-- the sizes of all entries, of those that are confirmed, and of the others
module _ (c : goal.After-entries_size-2) where
  abbrev all : List Change
  all = c.args.self.now.entries

  abbrev gone : ℕ
  gone = length c.entries-count.result.now - (c.next-next.result - 1 - c.args.number)

  abbrev size : List Change → ℕ
  size es = length (puts_text (entry_rows es))

  of_gone : c.entries_size-2.result ≡ size (take gone all)
  of_gone = c.entries_size-2.ensures.size ∙ ap (λ (es : List Change). size (take gone es)) c.entries.ensures.entries

  of_left : size c.in_ok-without_first.field-0 ≡ size (drop gone all)
  of_left = ap size (c.in_ok-without_first.ensures ∙ ap (λ (o : Contents). drop gone o.entries) c.self.view_is)

pub overflow_sub-result : goal.overflow_sub-result
overflow_sub-result c = omega (arith, c.entries_size.ensures.size, of_gone c, divided_size (gone c) (all c))

pub invariant_of-result : goal.invariant_of-result
invariant_of-result c =
    let entries = c.entries-count.result.now in
    let same : c.self.inside.entries ≡ entries = ap (λ (o : Contents). o.entries) c.self.view_is ∙ sym c.entries-count.ensures.entries in
    record {
      sound = left_sound c.args.self.now c.args.number c.next-next.result entries c.in_ok-without_first.field-0 c.entries-count.ensures.sound c.next-next.ensures.next c.entries-count.ensures.entries
          (omega arith) (omega arith) (c.in_ok-without_first.ensures ∙ ap (drop (length entries - (c.next-next.result - 1 - c.args.number))) same);
      size_is = omega (arith, c.entries_size.ensures.size, of_gone c, of_left c, divided_size (gone c) (all c));
    }

pub returns-clause-ok : goal.returns-clause-ok
returns-clause-ok c =
    let entries = c.entries-count.result.now in
    let same : c.self.inside.entries ≡ entries = ap (λ (o : Contents). o.entries) c.self.view_is ∙ sym c.entries-count.ensures.entries in
    left_confirmed c.args.self.now c.args.number c.next-next.result entries c.in_ok-without_first.field-0 c.entries-count.ensures.sound c.next-next.ensures.next c.entries-count.ensures.entries
    (omega arith) (omega arith) (c.in_ok-without_first.ensures ∙ ap (drop (length entries - (c.next-next.result - 1 - c.args.number))) same)
