use Rattle.std.proofs.Common.{◌≡◌, ◌∙◌, false, of_calls, rules, sym, ap, subst}
use Rattle.std.specs.List.{AllByRecursion}
use Rattle.std.proofs.lemmas.Fn.{always_returns_same}
use Rattle.pref_bindings.specs.Bindings.{of_feature}
use Rattle.pref_bindings.proofs.FeatureRanges.{is_below, is_of, none_below, own_among, own_parted, taken}
use Rattle.pref_bindings.proofs.feature_range.of_feature.Goals as goal

pub returns : goal.returns
returns c =
    let feature = c.args.feature.now in
    let bindings = c.args.bindings.now in
    let rest = c.not_below-rest.result.now in
    let least : AllByRecursion (λ b. is_below feature b ≡ false) rest = subst (AllByRecursion (λ b. is_below feature b ≡ false)) (sym c.not_below-rest.ensures.rest) (none_below feature bindings) in
    let point = c.partition_point-count.ensures.partitioned (is_of feature) (always_returns_same _ _ _ (λ a r f k. search (rules, of_calls))) (own_parted feature rest c.not_below-rest.ensures.order least) in
    taken (is_of feature) rest c.partition_point-count.result c.partition_point-count.ensures.bound point ∙ ap (of_feature feature) c.not_below-rest.ensures.rest ∙ own_among feature bindings
