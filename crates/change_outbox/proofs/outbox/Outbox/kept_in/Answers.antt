-- What both outboxes have is known by the numbers.
use Rattle.std.proofs.Common.{◌≡◌, ◌-◌, length, ap, arith}
use Rattle.change_outbox.proofs.Made.{are_added, few_kept, rows_kept}
use Rattle.change_outbox.proofs.outbox.Outbox.kept_in.Goals as goal

pub overflow_sub-result : goal.overflow_sub-result
overflow_sub-result c =
    let o = c.args.self.now in
    let p = c.args.next.now in
    omega (arith, are_added o p c.next-2.ensures.sound.numbered c.requires, c.next.ensures.next, c.next-2.ensures.next, ap length c.entries.ensures.entries)

pub returns-clause-old_entries : goal.returns-clause-old_entries
returns-clause-old_entries c =
    let o = c.args.self.now in
    let p = c.args.next.now in
    omega (arith, few_kept o p c.next-2.ensures.sound.numbered c.requires, c.next.ensures.next, c.next-2.ensures.next, ap length c.entries.ensures.entries)

pub returns-clause-rows : goal.returns-clause-rows
returns-clause-rows c =
    let o = c.args.self.now in
    let p = c.args.next.now in
    let kept = length c.entries.result.now - (c.next.result - c.next-2.result) in
    let is : kept ≡ length p.entries - (p.next - o.next) = omega (arith, c.next.ensures.next, c.next-2.ensures.next, ap length c.entries.ensures.entries) in
    rows_kept o p c.next-2.ensures.sound.numbered c.requires c.next.ensures.sound.numbered.last kept is
