use Rattle.std.proofs.Common.{◌≡◌, ◌∙◌, ◌≤◌, arith, length}
use Rattle.std.specs.List.{insert}
use Rattle.enrol_states.proofs.Ordered.{is_in-place, inserted}
use Rattle.enrol_states.proofs.OptOuts.{full, free_at}
use Rattle.enrol_states.proofs.joining.with_slug_at.Goals as goal

pub returns-then-len-ge-MAX_OPTED_OUT-clause-slugs : goal.returns-then-len-ge-MAX_OPTED_OUT-clause-slugs
returns-then-len-ge-MAX_OPTED_OUT-clause-slugs c =
    let most : 4096 ≤ length c.args.slugs.now = omega (arith, c.if-len-ge-MAX_OPTED_OUT.true, c.len.ensures) in
    full c.args.slug.now c.args.slugs.now (is_in-place c.args.slug.now c.args.slugs.now c.args.place c.requires.place) most

pub returns-clause-slugs : goal.returns-clause-slugs
returns-clause-slugs c =
    let slugs = c.args.slugs.now in
    let copy = c.in_ok-clone.ensures in
    let grown = c.in_ok-inserted.ensures.list in
    let placed : c.in_ok-inserted.field-0.list ≡ insert slugs c.args.place c.args.slug.now = cc in
    (free_at c.args.slug.now slugs (omega (arith, c.if-len-ge-MAX_OPTED_OUT.false, c.len.ensures)), placed ∙ inserted c.args.slug.now slugs c.args.place c.requires.place)
