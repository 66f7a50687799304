use Rattle.std.proofs.Common.{rules, Less, Equal, Greater, Some, ◌≡◌, ◌<◌, ◌++◌, ◌∷◌, length, ap, sym, ◌∙◌, subst, arith}
use Rattle.row_batches.specs.Rows.{AreRows, key_cmp, value_of}
use Rattle.row_batches.specs.Trees.{rows_in}
use Rattle.row_batches.specs.declared.tree.Fork.{Fork}
use Rattle.row_batches.proofs.Sides.{length_around, rise_front, rise_behind, value_below, value_here, value_above}
use Rattle.row_batches.proofs.tree_rows.+value_in.Goals as goal

pub value_in-requires : goal.value_in-requires
value_in-requires t c =
    let f = c.in-Fork.fork.value in
    let rise : AreRows (rows_in f.below ++ f.row ∷ rows_in f.above) = subst (λ tree. AreRows (rows_in tree)) c.in-Fork.is c.requires.rise in
    let count = length_around (rows_in f.below) f.row (rows_in f.above) in
    let less : length (rows_in f.below) < length (rows_in f.below ++ f.row ∷ rows_in f.above) = omega (arith, count) in
    let fewer : length (rows_in f.below) < length (rows_in c.args.tree.now) = subst (λ tree. length (rows_in f.below) < length (rows_in tree)) (sym c.in-Fork.is) less in
    let smaller : length (rows_in c.deref-in-Less.result.now.below) < length (rows_in c.args.tree.now) = subst (λ (g : Fork). length (rows_in g.below) < length (rows_in c.args.tree.now)) (sym c.deref-in-Less.ensures) fewer in
    (omega (arith, smaller, c.decreases), subst (λ (g : Fork). AreRows (rows_in g.below)) (sym c.deref-in-Less.ensures) (rise_front (rows_in f.below) (f.row ∷ rows_in f.above) rise))

pub value_in-requires-in-Greater : goal.value_in-requires-in-Greater
value_in-requires-in-Greater t c =
    let f = c.in-Fork.fork.value in
    let rise : AreRows (rows_in f.below ++ f.row ∷ rows_in f.above) = subst (λ tree. AreRows (rows_in tree)) c.in-Fork.is c.requires.rise in
    let count = length_around (rows_in f.below) f.row (rows_in f.above) in
    let less : length (rows_in f.above) < length (rows_in f.below ++ f.row ∷ rows_in f.above) = omega (arith, count) in
    let fewer : length (rows_in f.above) < length (rows_in c.args.tree.now) = subst (λ tree. length (rows_in f.above) < length (rows_in tree)) (sym c.in-Fork.is) less in
    let smaller : length (rows_in c.deref-in-Greater.result.now.above) < length (rows_in c.args.tree.now) = subst (λ (g : Fork). length (rows_in g.above) < length (rows_in c.args.tree.now)) (sym c.deref-in-Greater.ensures) fewer in
    (omega (arith, smaller, c.decreases), subst (λ (g : Fork). AreRows (rows_in g.above)) (sym c.deref-in-Greater.ensures) (rise_behind (rows_in f.below) f.row (rows_in f.above) rise))

pub returns-in-Less : goal.returns-in-Less
returns-in-Less t c =
    let f = c.in-Fork.fork.value in
    let key = c.args.key.now in
    let less : key_cmp key f.row.key ≡ Less = search rules in
    c.value_in.ensures ∙ ap (λ (g : Fork). value_of key (rows_in g.below)) c.deref-in-Less.ensures ∙ value_below key (rows_in f.below) f.row (rows_in f.above) less ∙ ap (λ tree. value_of key (rows_in tree)) (sym c.in-Fork.is)

pub returns-in-Equal : goal.returns-in-Equal
returns-in-Equal t c =
    let f = c.in-Fork.fork.value in
    let key = c.args.key.now in
    let even : key_cmp key f.row.key ≡ Equal = search rules in
    let rise : AreRows (rows_in f.below ++ f.row ∷ rows_in f.above) = subst (λ tree. AreRows (rows_in tree)) c.in-Fork.is c.requires.rise in
    ap Some (c.as_slice-in-Equal.ensures ∙ ap (λ (g : Fork). g.row.value) c.deref-in-Equal.ensures) ∙ value_here key (rows_in f.below) f.row (rows_in f.above) rise even ∙ ap (λ tree. value_of key (rows_in tree)) (sym c.in-Fork.is)

pub returns-in-Greater : goal.returns-in-Greater
returns-in-Greater t c =
    let f = c.in-Fork.fork.value in
    let key = c.args.key.now in
    let more : key_cmp key f.row.key ≡ Greater = search rules in
    let rise : AreRows (rows_in f.below ++ f.row ∷ rows_in f.above) = subst (λ tree. AreRows (rows_in tree)) c.in-Fork.is c.requires.rise in
    c.value_in-in-Greater.ensures ∙ ap (λ (g : Fork). value_of key (rows_in g.above)) c.deref-in-Greater.ensures ∙ value_above key (rows_in f.below) f.row (rows_in f.above) rise more ∙ ap (λ tree. value_of key (rows_in tree)) (sym c.in-Fork.is)
