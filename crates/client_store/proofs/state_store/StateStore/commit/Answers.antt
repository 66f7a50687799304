-- The rows that are written are those of the new state.
use Rattle.std.proofs.Common.{OnErr, Result, Ok, Err, ap, ◌∙◌, subst, sym}
use Rattle.std.proofs.lemmas.Result.{err_from_is_err_and}
use Rattle.row_store.specs.Store.{StoredRows}
use Rattle.client_state.specs.Sizes.{IsSizeOf}
use Rattle.client_state.specs.declared.client_state.ClientState.{ClientState}
use Rattle.client_store.specs.Changes.{next_of}
use Rattle.client_store.specs.Stored.{StoredState}
use Rattle.client_store.proofs.Storing.{next_same, sound_after, sizes_after, stored_after, met_as_states}
use Rattle.client_store.proofs.state_store.StateStore.commit.Goals as goal

pub returns-in_err-commit-clause-any_moment : goal.returns-in_err-commit-clause-any_moment
returns-in_err-commit-clause-any_moment g c tells gated =
    met_as_states _ c.args.self.now c.self.view_is c.self.invariant c.args.change c.requires.change g.H.Host c.args.host.now c.commit.new.host (c.commit.ensures.any_moment tells) gated

pub take_over-requires-clause-sound : goal.take_over-requires-clause-sound
take_over-requires-clause-sound g c = sound_after _ c.args.self.now c.self.view_is c.self.invariant c.args.change c.requires.change

pub take_over-requires-clause-sizes : goal.take_over-requires-clause-sizes
take_over-requires-clause-sizes g c =
    subst (IsSizeOf (next_of c.self.inside.state c.args.change)) (sym c.into_inner.ensures) (sizes_after _ c.args.self.now c.self.view_is c.self.invariant c.args.change c.requires.change)

pub invariant_of-self-2 : goal.invariant_of-self-2
invariant_of-self-2 g c = stored_after _ c.args.self.now c.self.view_is c.self.invariant c.args.change c.requires.change c.commit.new.self c.take_over.new.self c.in_ok-commit.ensures.rows c.take_over.ensures

pub returns-clause-stored : goal.returns-clause-stored
returns-clause-stored g c = stored_after _ c.args.self.now c.self.view_is c.self.invariant c.args.change c.requires.change c.commit.new.self c.take_over.new.self c.in_ok-commit.ensures.rows c.take_over.ensures

pub returns-clause-state : goal.returns-clause-state
returns-clause-state g c = c.take_over.ensures ∙ next_same _ c.args.self.now c.self.view_is c.self.invariant c.args.change c.requires.change

pub returns-clause-any_moment : goal.returns-clause-any_moment
returns-clause-any_moment g c tells gated =
    met_as_states _ c.args.self.now c.self.view_is c.self.invariant c.args.change c.requires.change g.H.Host c.args.host.now c.commit.new.host (c.commit.ensures.any_moment tells) gated

pub returns-in_err-commit-clause-bytes : goal.returns-in_err-commit-clause-bytes
returns-in_err-commit-clause-bytes g c tells = let p = err_from_is_err_and c.from_residual.result c.from_residual.ensures.1 in rw p.1 tt

-- what holds anyway holds where there is an error
on_err : {T E P : Type 0} (r : Result T E) → P → OnErr r P
on_err (Ok x) p = tt
on_err (Err e) p = p

abbrev with_rows : ClientState → StoredRows → StoredState
with_rows s rows = record { rows = rows; state = s }

pub returns-in_err-commit-clause-same : goal.returns-in_err-commit-clause-same
returns-in_err-commit-clause-same g c =
    on_err c.from_residual.result (ap (with_rows c.self.inside.state) c.in_err-commit.ensures.same ∙ c.self.view_is)

-- nothing is promised of `Ok` there
pub returns-in_err-commit-clause-acknowledged : goal.returns-in_err-commit-clause-acknowledged
returns-in_err-commit-clause-acknowledged g c tells = let p = err_from_is_err_and c.from_residual.result c.from_residual.ensures.1 in rw p.1 tt

pub returns-in_err-commit-clause-state : goal.returns-in_err-commit-clause-state
returns-in_err-commit-clause-state g c = let p = err_from_is_err_and c.from_residual.result c.from_residual.ensures.1 in rw p.1 tt

pub returns-in_err-commit-clause-place : goal.returns-in_err-commit-clause-place
returns-in_err-commit-clause-place g c = let p = err_from_is_err_and c.from_residual.result c.from_residual.ensures.1 in rw p.1 tt
