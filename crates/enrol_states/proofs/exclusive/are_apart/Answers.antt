-- One row more, and what the set says of it.
use Rattle.std.proofs.Common.{refl, sym, ap, ◌∙◌, ◌&&◌}
use Rattle.enrol_states.specs.Recipes.{has_feature}
use Rattle.enrol_states.specs.TextSets.{has_text}
use Rattle.enrol_states.proofs.Holdings.{none_held, none_apart, some_held, some_apart, some_taken, all_apart, one_shared, none_in_common}
use Rattle.enrol_states.proofs.exclusive.are_apart.Goals.{in-Some+else-is_some+in_ok-add_all_features, in_default}
use Rattle.enrol_states.proofs.exclusive.are_apart.Goals as goal

pub loop-row-preserved : goal.loop-row-preserved
loop-row-preserved c =
    let s = c.args.state.now in
    let rows = c.as_slice-row-items.result.now in
    let i = c.loop-row.row-index in
    let row = c.row-item.result in
    elim c.match-enrolled_recipe.branch [
      | in-Some+else-is_some+in_ok-add_all_features w ↦
          let r = w.in-Some.recipe.now in
          let none = none_in_common _ (λ f. has_text c.loop-row.held f && has_feature r f) w.least_shared.result w.is_some.result w.is_some.ensures w.if-is_some.false w.least_shared.ensures in
          record {
            held = λ f. ap (λ set. has_text set f) w.held-is
                ∙ some_held s c.args.kind rows i row r c.loop-row.held w.add_all_features.new.features c.loop-row-test.true c.row-item.is (sym w.in-Some.ensures) c.loop-row.invariant.held w.in_ok-add_all_features.ensures f;
            apart = some_apart s c.args.kind rows i row r c.loop-row.held c.loop-row-test.true c.row-item.is (sym w.in-Some.ensures) c.loop-row.invariant.held none c.loop-row.invariant.apart;
          }
      | in_default w ↦
          record {
            held = λ f. ap (λ set. has_text set f) w.held-is ∙ none_held s c.args.kind rows i row c.loop-row.held c.loop-row-test.true c.row-item.is (sym w.in_default.ensures) c.loop-row.invariant.held f;
            apart = none_apart s c.args.kind rows i row c.loop-row-test.true c.row-item.is (sym w.in_default.ensures) c.loop-row.invariant.apart;
          }
    ]

pub returns-then-is_some : goal.returns-then-is_some
returns-then-is_some c =
    let s = c.args.state.now in
    let r = c.in-Some.recipe.now in
    let shared = one_shared _ (λ f. has_text c.loop-row.held f && has_feature r f) c.least_shared.result c.is_some.result c.is_some.ensures c.if-is_some.true c.least_shared.ensures in (
      λ never. absurd cc,
      λ apart. absurd (some_taken s c.args.kind c.as_slice-row-items.result.now c.loop-row.row-index c.row-item.result r c.loop-row.held shared.0 c.as_slice-row-items.ensures c.loop-row-test.true c.row-item.is (sym c.in-Some.ensures) c.loop-row.invariant.held shared.1 apart),
    )

pub returns : goal.returns
returns c = (λ all. all_apart c.args.state.now c.args.kind c.as_slice-row-items.result.now c.loop-row.row-index c.as_slice-row-items.ensures c.loop-row-test.false c.loop-row.invariant.apart, λ apart. refl)
