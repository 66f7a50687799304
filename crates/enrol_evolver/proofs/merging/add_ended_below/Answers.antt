use Rattle.std.proofs.Common.{rules, ◌≡◌, ◌∷◌, true, Less, ap}
use Rattle.std.specs.Ordering.{is_lt}
use Rattle.recipe_reader.specs.Payloads.{slug_cmp}
use Rattle.enrol_evolver.specs.Evolution.{is_below}
use Rattle.enrol_evolver.proofs.MergedRows.{rows-passed, left-passed}
use Rattle.enrol_evolver.proofs.merging.add_ended_below.Goals as goal

pub loop-row-preserved : goal.loop-row-preserved
loop-row-preserved c =
    let client = c.args.client.now in
    let first : c.loop-row.left.now ≡ c.in-Some.row.now ∷ c.in-Some.rest.now = search rules in
    let less : slug_cmp c.in-Some.row.now.slug c.args.slug.now ≡ Less = search rules in
    let below : is_below c.args.slug.now c.in-Some.row.now ≡ true = ap is_lt less in
    record {
      rows = rows-passed client.context.now client.state.now client.moment (is_below c.args.slug.now) c.in-Some.row.now c.in-Some.rest.now _ c.loop-row.rows _ _ first below c.in_ok-add_ended-in-Less.ensures c.loop-row.invariant.rows;
      left = left-passed (is_below c.args.slug.now) c.in-Some.row.now c.in-Some.rest.now _ _ first below c.loop-row.invariant.left;
    }
