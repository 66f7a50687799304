-- The function leaves the state of the fields as it is.
use Rattle.std.proofs.Common.{◌≡◌, sym, ap, subst}
use Rattle.std.specs.Fn.{FnOnceReturnsAtMut}
use Rattle.client_state.specs.declared.client_state.ClientState.{ClientState}
use Rattle.client_store.specs.Stored.{StoredState}
use Rattle.client_store.proofs.state_store.StateStore.lend.Goals as goal

pub lend-requires-clause-same : goal.lend-requires-clause-same
lend-requires-clause-same g c =
    subst (λ (s : ClientState). (made : g.row.T.Denot) (left : ClientState) → FnOnceReturnsAtMut g.F.FnOnce c.args.function s made left → left ≡ s)
    (sym (ap (λ (stored : StoredState). stored.state) c.self.view_is)) c.requires.same
