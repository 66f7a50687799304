-- The changes are numbered and sound, and their sizes are added.
use Rattle.std.proofs.Common.{◌≡◌, ◌≤◌, ◌+◌, ◌++◌, List, ℕ, length, sym, ap, ap₂, ◌∙◌, subst, arith}
use Rattle.row_batches.specs.Batch.{puts_text}
use Rattle.change_outbox.specs.declared.change.Change.{Change}
use Rattle.change_outbox.specs.Contents.{Contents, IsSound, last_number, numbered}
use Rattle.change_outbox.specs.Rows.{entry_rows}
use Rattle.change_outbox.proofs.Numbers.{appended_sound}
use Rattle.change_outbox.proofs.RowSizes.{appended_size}
use Rattle.change_outbox.proofs.outbox.Outbox.append.Goals as goal

pub invariant_of-result : goal.invariant_of-result
invariant_of-result c =
    let next = c.self.inside.next in
    let changes = c.args.changes in
    let entries : c.in_ok-entries.entries ≡ c.self.inside.entries ++ numbered next changes = c.in_ok-entries.ensures.entries in
    let within : next + length changes ≤ last_number = omega arith in
    let own = c.entries_size.ensures.size ∙ ap (λ (o : Contents). length (puts_text (entry_rows o.entries))) (sym c.self.view_is) in
    let more = c.entries_size-2.ensures.size ∙ ap (λ (cs : List Change). length (puts_text (entry_rows cs))) c.as_slice.ensures in
    record {
      sound = subst IsSound (λ i. record { next = next + sym c.len-count.ensures i; entries = sym entries i })
          (appended_sound (record { next = next; entries = c.self.inside.entries }) changes c.self.invariant.sound c.in_ok-entries.ensures.slugs within);
      size_is = ap₂ (λ (a b : ℕ). a + b) own more ∙ appended_size next c.self.inside.entries changes c.in_ok-entries.entries entries;
    }
