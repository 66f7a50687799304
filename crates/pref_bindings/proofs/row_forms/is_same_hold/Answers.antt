use Rattle.std.proofs.Common.{sym, ◌∙◌}
use Rattle.std.specs.Cmp.Lexicographic.{bytes_decides}
use Rattle.pref_bindings.specs.Rows.{before_text}
use Rattle.pref_bindings.proofs.Told.{holds_told}
use Rattle.pref_bindings.proofs.Values.{same_text_parts}
use Rattle.pref_bindings.proofs.row_forms.is_same_hold.Goals as goal

pub returns-then-eq : goal.returns-then-eq
returns-then-eq c =
    let old = c.args.old.now in
    let new = c.args.new.now in
    holds_told c.is_same_before.result old.holder new.holder old.before new.before ((bytes_decides old.holder new.holder).0 (sym c.eq.ensures ∙ c.if-eq.true)) c.is_same_before.ensures

pub returns-else-eq : goal.returns-else-eq
returns-else-eq c =
    let old = c.args.old.now in
    let new = c.args.new.now in (
      λ is. let two = sym is ∙ c.if-eq.false in absurd cc,
      λ texts. c.eq.ensures ∙ (bytes_decides old.holder new.holder).1 (same_text_parts old.holder new.holder (before_text old.before) (before_text new.before) texts).0,
    )
