use Rattle.std.proofs.Common.{◌≤◌, subst}
use Rattle.fml_types.specs.Values.{value_in}
use Rattle.fml_types.proofs.Rounds.{above_next}
use Rattle.fml_types.proofs.grounding.first_above.Goals as goal

pub loop-place-preserved : goal.loop-place-preserved
loop-place-preserved g c =
    let low = subst (λ n. n ≤ c.args.limit) c.value_in.ensures c.if-value_in-limit.false in
    above_next c.args.limit (value_in c.args.values.now) c.loop-place.place c.args.names.now _ c.loop-place-test.true low c.loop-place.invariant
