-- The function leaves the state as it is, so its size stays too.
use Rattle.std.proofs.Common.{ap, refl, sym, ◌∙◌, subst}
use Rattle.client_state.specs.Sizes.{IsSizeOf}
use Rattle.client_state.specs.Sound.{IsSound}
use Rattle.client_state.specs.declared.client_state.ClientState.{ClientState}
use Rattle.client_store.specs.declared.sized_state.CountedState.{CountedState}
use Rattle.client_store.proofs.sized_state.SizedState.lend.Goals as goal

pub returns-clause-same : goal.returns-clause-same
returns-clause-same g c =
    let shows = ap (λ (it : CountedState). it.state) c.deref_mut.ensures.value ∙ c.self.view_is in
    c.requires.same _ _ (record { shown = _; shows = shows; left = _; met = c.function.ensures; leaves = refl })

pub returns-clause-made : goal.returns-clause-made
returns-clause-made g c =
    let shows = ap (λ (it : CountedState). it.state) c.deref_mut.ensures.value ∙ c.self.view_is in
    record { shown = _; shows = shows; left = _; met = c.function.ensures; leaves = returns-clause-same g c }

pub invariant_of-self : goal.invariant_of-self
invariant_of-self g c =
    let shows = ap (λ (it : CountedState). it.state) c.deref_mut.ensures.value ∙ c.self.view_is in
    let kept = subst (λ (it : CountedState). IsSound it.state × IsSizeOf it.state it.sizes) (sym c.deref_mut.ensures.value) c.self.invariant in
    subst (λ (s : ClientState). IsSound s × IsSizeOf s c.deref_mut.result.now.sizes) (shows ∙ sym (returns-clause-same g c)) kept
