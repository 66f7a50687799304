use Rattle.std.proofs.Common.{◌+◌, ◌≤◌, drop, length, sym, ap, ◌∙◌, subst}
use Rattle.std.specs.Prelude.{slice_range}
use Rattle.change_outbox.specs.Shown.{shared_items}
use Rattle.change_outbox.proofs.Parts.{part_behind}
use Rattle.change_outbox.proofs.entries.Entries.without_first.Goals as goal

pub returns : goal.returns
returns c =
    let start = c.self.inside.start in
    let end = c.self.inside.end in
    let count = c.args.count in
    ap (λ l. slice_range l (start + count) end) c.in_ok-same_list.ensures
    ∙ part_behind (shared_items c.self.inside.list) start end count c.self.invariant.0 c.self.invariant.1 (subst (λ l. count ≤ length l) (sym c.self.view_is) c.requires)
    ∙ ap (drop count) c.self.view_is
