use Rattle.std.proofs.Common.{rules, is_lt, nat_cmp}
use Rattle.std.specs.Cmp.Lexicographic.{slice_cmp}
use Rattle.std.proofs.lemmas.Fn.{always_returns_same}
use Rattle.enrol_conflicts.specs.declared.candidate.Candidate.{Candidate}
use Rattle.enrol_conflicts.proofs.OwnSlugs.{own_slugs, rise, rise_back}
use Rattle.enrol_conflicts.proofs.slugs.slugs_rise.Goals as goal

pub returns-clause-rise : goal.returns-clause-rise
returns-clause-rise c =
    let e = c.is_sorted_by.ensures.cases (λ (v w : Candidate). is_lt (slice_cmp nat_cmp v.slug w.slug)) (always_returns_same _ _ _ (λ a r f k. search rules)) in
    (rise c.args.candidates.now c.is_sorted_by.result e, rise_back c.args.candidates.now c.is_sorted_by.result e)

pub returns-clause-differ : goal.returns-clause-differ
returns-clause-differ c = λ t. own_slugs c.args.candidates.now ((returns-clause-rise c).0 t)
