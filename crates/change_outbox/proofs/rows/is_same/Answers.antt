use Rattle.std.proofs.Common.{rules, ◌≡◌, IsTrue, sym, ◌∙◌}
use Rattle.std.specs.Cmp.Lexicographic.{bytes_decides}
use Rattle.change_outbox.proofs.EntryOrder.{is_other, is_one}
use Rattle.change_outbox.proofs.OneList.{same_text, text_of_parts}
use Rattle.change_outbox.proofs.rows.is_same.Goals as goal

pub returns-then-ne : goal.returns-then-ne
returns-then-ne c =
    let old = c.args.old.now in
    let new = c.args.new.now in
    (λ is. absurd cc, λ same. absurd (is_other c.ne.result old.slug new.slug c.ne.ensures c.if-ne.true (same_text old.kind new.kind old.slug new.slug old.branch new.branch same).slug_is))

pub returns : goal.returns
returns c =
    let old = c.args.old.now in
    let new = c.args.new.now in
    let kind : IsTrue c.is_same_kind.result = search rules in
    let slug : old.slug ≡ new.slug = is_one c.ne.result old.slug new.slug c.ne.ensures c.if-ne.false in (
      λ is. text_of_parts old.kind new.kind old.slug new.slug old.branch new.branch (c.is_same_kind.ensures.0 kind) slug ((bytes_decides old.branch new.branch).0 (sym c.eq.ensures ∙ is)),
      λ same. c.eq.ensures ∙ (bytes_decides old.branch new.branch).1 (same_text old.kind new.kind old.slug new.slug old.branch new.branch same).branch_is,
    )
