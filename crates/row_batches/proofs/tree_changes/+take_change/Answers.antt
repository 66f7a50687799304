use Rattle.std.proofs.Common.{rules, Less, Equal, Greater, ◌≡◌, ◌++◌, ◌∷◌, length, ap, sym, ◌∙◌, subst, arith}
use Rattle.row_batches.specs.Rows.{AreRows, key_cmp, key_in, after_change}
use Rattle.row_batches.specs.Trees.{rows_in, rows_at}
use Rattle.row_batches.proofs.Sides.{length_around, rise_front, rise_behind, change_below, change_above, with_here, without_here}
use Rattle.row_batches.proofs.tree_changes.+take_change.Goals as goal

pub take_change-requires : goal.take_change-requires
take_change-requires t c =
    let f = c.deref_mut.result.now in
    let whole : rows_in c.args.tree.now ≡ rows_at f = search rules in
    let rise = rise_front (rows_in f.below) (f.row ∷ rows_in f.above) (subst AreRows whole c.requires.rise) in
    let count = ap length whole ∙ length_around (rows_in f.below) f.row (rows_in f.above) in
    (omega (arith, count, c.decreases), (rise, (c.requires.enough, omega (arith, count, c.requires.room))))

pub take_change-requires-in-Greater : goal.take_change-requires-in-Greater
take_change-requires-in-Greater t c =
    let f = c.deref_mut-in-Greater.result.now in
    let whole : rows_in c.args.tree.now ≡ rows_at f = search rules in
    let rise = rise_behind (rows_in f.below) f.row (rows_in f.above) (subst AreRows whole c.requires.rise) in
    let count = ap length whole ∙ length_around (rows_in f.below) f.row (rows_in f.above) in
    (omega (arith, count, c.decreases), (rise, (c.requires.enough, omega (arith, count, c.requires.room))))

pub returns-in-Less-clause-rows : goal.returns-in-Less-clause-rows
returns-in-Less-clause-rows t c =
    let f = c.deref_mut.result.now in
    let whole : rows_in c.args.tree.now ≡ rows_at f = search rules in
    let less : key_cmp (key_in c.args.change) f.row.key ≡ Less = search rules in
    ap (λ l. l ++ f.row ∷ rows_in f.above) c.take_change.ensures.rows ∙ change_below c.args.change (rows_in f.below) f.row (rows_in f.above) less ∙ ap (after_change c.args.change) (sym whole)

pub returns-then-height-before-clause-rows : goal.returns-then-height-before-clause-rows
returns-then-height-before-clause-rows t c =
    let f = c.deref_mut.result.now in
    let whole : rows_in c.args.tree.now ≡ rows_at f = search rules in
    let less : key_cmp (key_in c.args.change) f.row.key ≡ Less = search rules in
    c.balance.ensures ∙ ap (λ l. l ++ f.row ∷ rows_in f.above) c.take_change.ensures.rows ∙ change_below c.args.change (rows_in f.below) f.row (rows_in f.above) less ∙ ap (after_change c.args.change) (sym whole)

pub returns-in-Put-clause-rows : goal.returns-in-Put-clause-rows
returns-in-Put-clause-rows t c =
    let f = c.deref_mut-in-Put.result.now in
    let whole : rows_in c.args.tree.now ≡ rows_at f = search rules in
    let even : key_cmp c.in-Put.row.key f.row.key ≡ Equal = search rules in
    with_here c.in-Put.row (rows_in f.below) f.row (rows_in f.above) (subst AreRows whole c.requires.rise) even ∙ ap (λ change. after_change change (rows_at f)) (sym c.in-Put.is) ∙ ap (after_change c.args.change) (sym whole)

pub returns-in-Fork-replace-clause-rows : goal.returns-in-Fork-replace-clause-rows
returns-in-Fork-replace-clause-rows t c =
    let f = c.in-Fork.fork.value in
    let whole : rows_in c.args.tree.now ≡ rows_at f = search rules in
    let taken : rows_in c.without_row.result ≡ rows_in f.below ++ rows_in f.above = search rules in
    let even : key_cmp c.in-Delete._key f.row.key ≡ Equal = search rules in
    taken ∙ without_here c.in-Delete._key (rows_in f.below) f.row (rows_in f.above) (subst AreRows whole c.requires.rise) even ∙ ap (λ change. after_change change (rows_at f)) (sym c.in-Delete.is) ∙ ap (after_change c.args.change) (sym whole)

pub returns-then-height-before-2-clause-rows : goal.returns-then-height-before-2-clause-rows
returns-then-height-before-2-clause-rows t c =
    let f = c.deref_mut-in-Greater.result.now in
    let whole : rows_in c.args.tree.now ≡ rows_at f = search rules in
    let more : key_cmp (key_in c.args.change) f.row.key ≡ Greater = search rules in
    c.balance-then-height-before-2.ensures ∙ ap (λ l. rows_in f.below ++ f.row ∷ l) c.take_change-in-Greater.ensures.rows ∙ change_above c.args.change (rows_in f.below) f.row (rows_in f.above) (subst AreRows whole c.requires.rise) more ∙ ap (after_change c.args.change) (sym whole)

pub returns-clause-rows : goal.returns-clause-rows
returns-clause-rows t c =
    let f = c.deref_mut-in-Greater.result.now in
    let whole : rows_in c.args.tree.now ≡ rows_at f = search rules in
    let more : key_cmp (key_in c.args.change) f.row.key ≡ Greater = search rules in
    ap (λ l. rows_in f.below ++ f.row ∷ l) c.take_change-in-Greater.ensures.rows ∙ change_above c.args.change (rows_in f.below) f.row (rows_in f.above) (subst AreRows whole c.requires.rise) more ∙ ap (after_change c.args.change) (sym whole)
