use Rattle.std.proofs.Common.{rules, of_calls, ◌∙◌, sym, subst}
use Rattle.std.proofs.lemmas.Fn.{always_returns_same}
use Rattle.pref_bindings.specs.Bindings.{AreByVariable}
use Rattle.pref_bindings.proofs.FeatureRanges.{all_behind, below_parted, dropped, is_below, order_behind}
use Rattle.pref_bindings.proofs.feature_range.not_below.Goals as goal

pub returns-clause-rest : goal.returns-clause-rest
returns-clause-rest c =
    let feature = c.args.feature.now in
    let bindings = c.args.bindings.now in
    let point = c.partition_point-start.ensures.partitioned (is_below feature) (always_returns_same _ _ _ (λ a r f k. search (rules, of_calls))) (below_parted feature bindings c.requires) in
    all_behind bindings c.partition_point-start.result ∙ dropped (is_below feature) bindings c.partition_point-start.result c.partition_point-start.ensures.bound point

pub returns-clause-order : goal.returns-clause-order
returns-clause-order c =
    subst AreByVariable (sym (all_behind c.args.bindings.now c.partition_point-start.result)) (order_behind c.args.bindings.now c.partition_point-start.result c.requires)
