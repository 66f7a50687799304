-- What is defined by a context, a state and a moment, of a client.
use Rattle.std.specs.Prelude.{ℕ}
use Rattle.app_context.specs.Attributes.{ArePrepared}
use Rattle.app_context.specs.declared.context.Context.{Context}
use Rattle.enrol_states.specs.Order.{Rise}
use Rattle.enrol_states.specs.State.{slugs_of}
use Rattle.enrol_states.specs.declared.state.State.{State}
use Rattle.jexl_transforms.specs.Table.{HasStandardNames}
use Rattle.enrol_evolver.specs.declared.client.Client.{Client}
use Rattle.enrol_evolver.specs.declared.targeting.Evaluator.{Evaluator}

abbrev pub of_client : {A : Type 0} → (Context → State → ℕ → A) → Client → A
of_client f client = f client.context.now client.state.now client.moment

-- the client's rows and its opt-outs are in order by slug
pub record IsInOrder (client : Client) : Type 0 where
  pub rows : Rise (slugs_of client.state.now.rows)
  pub opted_out : Rise client.state.now.opted_out

-- the evaluator has the client's attributes, but for the recipe, and the standard transforms
abbrev pub IsReadyFor : {kind : _} {stored : _} {calls : _} → Client → Evaluator kind stored calls → Type 0
IsReadyFor client evaluator = ArePrepared client.context.now client.state.now client.moment evaluator.attributes.pairs × HasStandardNames evaluator.table.now
