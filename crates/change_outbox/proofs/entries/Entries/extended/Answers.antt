use Rattle.std.proofs.Common.{rules, ◌≡◌, ◌+◌, ◌++◌, length, ap, ◌∙◌}
use Rattle.std.specs.Prelude.{slice_range}
use Rattle.change_outbox.specs.Shown.{shared_items}
use Rattle.change_outbox.proofs.Parts.{part_kept, part_longer}
use Rattle.change_outbox.proofs.entries.Entries.extended.Goals as goal

pub returns-in_err-put_behind-clause-same : goal.returns-in_err-put_behind-clause-same
returns-in_err-put_behind-clause-same c =
    part_kept (shared_items c.self.inside.list) (shared_items c.put_behind.new.list) c.self.inside.start c.self.inside.end c.self.invariant.0 c.put_behind.ensures.kept ∙ c.self.view_is

pub returns-in_err-same_list-clause-same : goal.returns-in_err-same_list-clause-same
returns-in_err-same_list-clause-same c =
    part_kept (shared_items c.self.inside.list) (shared_items c.put_behind.new.list) c.self.inside.start c.self.inside.end c.self.invariant.0 c.put_behind.ensures.kept ∙ c.self.view_is

pub returns-clause-same : goal.returns-clause-same
returns-clause-same c =
    part_kept (shared_items c.self.inside.list) (shared_items c.put_behind.new.list) c.self.inside.start c.self.inside.end c.self.invariant.0 c.put_behind.ensures.kept ∙ c.self.view_is

pub returns-clause-entries : goal.returns-clause-entries
returns-clause-entries c =
    let start = c.self.inside.start in
    let end = c.self.inside.end in
    let more = c.args.changes.items in
    let count : c.len-count.result ≡ length more = search rules in
    ap (λ l. slice_range l start (end + c.len-count.result)) c.in_ok-same_list.ensures
    ∙ ap (λ n. slice_range (shared_items c.put_behind.new.list) start (end + n)) count
    ∙ part_longer (shared_items c.self.inside.list) (shared_items c.put_behind.new.list) more start end c.self.invariant.0 c.self.invariant.1 c.in_ok-put_behind.ensures.put
    ∙ ap (λ l. l ++ more) c.self.view_is
