-- A pair stands for one state at most.
use Rattle.client_store.proofs.Uniqueness.{stands_once, one_state}
use Rattle.client_store.proofs.laws.one_state.Goals as goal

pub returns-clause-stands : goal.returns-clause-stands
returns-clause-stands c = stands_once

pub returns-clause-kept : goal.returns-clause-kept
returns-clause-kept c = one_state
