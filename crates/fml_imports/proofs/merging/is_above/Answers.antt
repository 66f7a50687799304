use Rattle.std.proofs.Common.{sym, ◌∙◌, subst}
use Rattle.fml_types.specs.Named.{IsAbove, AreRising}
use Rattle.fml_imports.proofs.Adding.{above_last}
use Rattle.fml_imports.proofs.merging.is_above.Goals as goal

pub returns-in-Some : goal.returns-in-Some
returns-in-Some g c = λ lower.
    let there = c.as_slice.ensures.pairs in
    let rising = subst AreRising (sym there) c.as_slice.ensures.rising in
    subst (IsAbove c.args.name.now) there (above_last c.args.name.now c.as_slice.result.now c.in-Some.last.now rising c.in-Some.ensures.item.3.0 c.in-Some.ensures.item.1 (sym c.is_lower.ensures ∙ lower))
