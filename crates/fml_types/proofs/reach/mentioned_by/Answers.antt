use Rattle.std.proofs.Common.{List, length, ap, ◌∙◌, arith}
use Rattle.fml_types.specs.Reach.{entered}
use Rattle.fml_types.specs.declared.graph.Part.{Part}
use Rattle.fml_types.proofs.Mentioned.{entered_length, only_next, all_next, mention_within}
use Rattle.fml_types.proofs.reach.mentioned_by.Goals as goal

pub loop-place-init : goal.loop-place-init
loop-place-init c = record {
  count = c.in_ok-rows.ensures.count;
  only = λ j i d. absurd (c.in_ok-rows.ensures.empty j i d);
  all = λ j i low inside m. absurd (omega (arith, low));
}

pub loop-place-preserved : goal.loop-place-preserved
loop-place-preserved c =
    let g = c.args.graph.now in
    let parts = c.index-graph-place.result in
    let made = c.in_ok-enter.ensures ∙ ap (λ (ps : List Part). entered ps c.loop-place.place c.loop-place.rows.items) c.as_slice.ensures in
    let so_far = c.loop-place.invariant in
    record {
      count = ap length made ∙ entered_length parts c.loop-place.place c.loop-place.rows.items ∙ so_far.count;
      only = only_next g c.loop-place.place parts c.loop-place.rows.items c.enter.new.rows.items c.loop-place-test.true c.index-graph-place.is made so_far.only;
      all = all_next g c.loop-place.place parts c.loop-place.rows.items c.enter.new.rows.items c.loop-place-test.true c.index-graph-place.is made so_far.count so_far.all;
    }

pub returns : goal.returns
returns c = record {
  count = c.loop-place.invariant.count;
  only = c.loop-place.invariant.only;
  all = λ j i inside m. c.loop-place.invariant.all j i (let low = mention_within c.args.graph.now i j m in omega (arith, low, c.loop-place-test.false)) inside m;
}
