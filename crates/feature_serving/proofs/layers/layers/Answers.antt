-- The sort leaves the layers in the one order that has no ties.
use Rattle.std.proofs.Common.{rules, map, is_lt}
use Rattle.std.proofs.lemmas.List.Sorted.{ranks_by, IsPermutation-map}
use Rattle.std.proofs.lemmas.Fn.{always_returns_same}
use Rattle.feature_serving.specs.Layers.{layer_cmp}
use Rattle.feature_serving.specs.Lent.{view}
use Rattle.feature_serving.proofs.Orders.{sorted_layers}
use Rattle.feature_serving.proofs.Ranks.{layer_cmp_total, sorted_view}
use Rattle.feature_serving.proofs.layers.layers.Goals as goal

pub returns : goal.returns
returns c =
    let before = c.in_ok-layers.layers.items in
    let after = c.sort_by.new.self.items in
    sorted_layers c.args.state.now c.args.feature.now (map view before) (map view after) c.requires c.in_ok-layers.ensures
    (IsPermutation-map view before after c.in_ok-sort_by.ensures.permutation)
    (sorted_view view (λ a b. is_lt (layer_cmp a b)) after (c.in_ok-sort_by.ensures.sorted (λ a b. is_lt (layer_cmp (view a) (view b))) (ranks_by layer_cmp_total view) (always_returns_same _ _ _ (λ a r f k. search rules))))
