use Rattle.std.proofs.Common.{◌≡◌, true, false, sym, ◌∙◌, subst, arith}
use Rattle.std.specs.Cmp.Lexicographic.{slice_cmp}
use Rattle.std.specs.Ordering.{nat_cmp, is_lt}
use Rattle.fml_imports.proofs.Adding.{before_below, past_below, below_within}
use Rattle.fml_imports.proofs.merging.is_below.Goals as goal

pub returns-in-Some-clause-below : goal.returns-in-Some-clause-below
returns-in-Some-clause-below g c = λ lower.
    before_below c.args.name.now c.args.names.now c.args.place c.in-Some.pair.now c.requires c.in-Some.ensures.lookup.3.0
    (subst (λ p. is_lt (slice_cmp nat_cmp p.0 c.args.name.now) ≡ true) c.in-Some.ensures.lookup.1 (sym c.is_lower.ensures ∙ lower))

pub returns-in-Some-clause-past : goal.returns-in-Some-clause-past
returns-in-Some-clause-past g c = λ upper.
    past_below c.args.name.now c.args.names.now c.args.place c.in-Some.pair.now
    (subst (λ p. is_lt (slice_cmp nat_cmp p.0 c.args.name.now) ≡ false) c.in-Some.ensures.lookup.1 (sym c.is_lower.ensures ∙ upper))

pub returns-in-None-clause-past : goal.returns-in-None-clause-past
returns-in-None-clause-past g c = λ none.
    let within = below_within c.args.name.now c.args.names.now in
    let end = c.in-None.ensures.lookup.3 in
    omega (arith, within, end)
