use Rattle.std.proofs.Common.{ap, ◌∙◌, subst}
use Rattle.fml_merge.specs.Faults.{first_owner, bad_in_feature, GivesDefaults}
use Rattle.fml_merge.proofs.Firsts.{owner_next, owner_first}
use Rattle.fml_merge.proofs.defaults.check_features.Goals as goal

pub loop-name-preserved : goal.loop-name-preserved
loop-name-preserved c =
    let bad = bad_in_feature c.args.manifest.now.types in
    owner_next bad c.as_slice-features.result.now c.loop-name.name-index c.loop-name-item.result c.in_ok-bad.bad c.loop-name-test.true c.loop-name-item.is c.in_ok-bad.ensures c.in_default.is ∙ c.loop-name.invariant

pub returns-in-Some : goal.returns-in-Some
returns-in-Some c =
    let bad = bad_in_feature c.args.manifest.now.types in
    let first = owner_first bad c.as_slice-features.result.now c.loop-name.name-index c.loop-name-item.result c.in_ok-bad.bad c.loop-name-test.true c.loop-name-item.is c.in_ok-bad.ensures c.in-Some.place c.in-Some.is in
    subst (λ b. GivesDefaults c.bad_default.result b) (first ∙ c.loop-name.invariant ∙ ap (first_owner bad) c.as_slice-features.ensures.pairs) c.bad_default.ensures
