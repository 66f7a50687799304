use Rattle.std.proofs.Common.{◌≡◌, map, take}
use Rattle.enrol_evolver.specs.Clients.{IsReadyFor}
use Rattle.enrol_evolver.specs.Wishes.{entry_of, wishes_among}
use Rattle.enrol_evolver.proofs.plan.planned.Given as goal

abbrev pub invariant-loop-recipe : goal.invariant-loop-recipe
invariant-loop-recipe g l = record {
  entries : l.plan.entries ≡ map (entry_of l.client.context.now l.client.state.now l.client.moment) (take l.recipe-index l.recipe-items);
  wishes : l.plan.wishes ≡ wishes_among l.client.context.now l.client.state.now l.client.moment (take l.recipe-index l.recipe-items);
  ready : IsReadyFor l.client l.evaluator;
}
