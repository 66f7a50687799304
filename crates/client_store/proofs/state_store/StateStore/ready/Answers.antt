-- There is a change exactly where the state is another one.
use Rattle.std.proofs.Common.{◌∙◌, sym, ap, subst}
use Rattle.client_state.specs.Changes.{state_after}
use Rattle.client_state.specs.Sizes.{IsSizeOf}
use Rattle.client_state.specs.Sound.{IsSound}
use Rattle.client_state.specs.declared.client_state.ClientState.{ClientState}
use Rattle.client_state.specs.declared.sizes.ClientSizes.{ClientSizes}
use Rattle.client_state.specs.declared.state_change.StateChange.{StateChange}
use Rattle.client_store.specs.Places.{row_changes}
use Rattle.client_store.specs.Stored.{StoredState}
use Rattle.client_store.proofs.Storing.{empty_is, not_empty, same_state, no_changes}
use Rattle.client_store.proofs.state_store.StateStore.ready.Goals as goal

pub returns-then-is_empty-clause-next : goal.returns-then-is_empty-clause-next
returns-then-is_empty-clause-next c =
    let s = c.self.inside.state in
    let batch = c.in_ok-batch.batch in
    let none = empty_is batch.changes c.changes.result.now c.changes.ensures.changes (sym c.is_empty.ensures ∙ c.if-is_empty.true) in
    let view = ap (λ (x : StoredState). state_after c.args.parts x.state) c.self.view_is in
    let next = ap (λ (parts : StateChange). state_after parts s) c.get.ensures ∙ view in
    sym (ap (λ (x : StoredState). x.state) c.self.view_is)
    ∙ same_state s (state_after c.get.result.now s) c.changes_to.ensures.sound (subst IsSound (sym next) c.requires.sound) batch c.in_ok-batch.ensures.changes c.in_ok-batch.ensures.gives none ∙ next

pub returns-clause-change : goal.returns-clause-change
returns-clause-change c =
    let s = c.self.inside.state in
    let batch = c.in_ok-batch.batch in
    let view = ap (λ (x : StoredState). state_after c.args.parts x.state) c.self.view_is in
    let shown = ap (λ (parts : StateChange). state_after parts s) c.get.ensures in
    record {
      other = λ is. not_empty batch.changes c.changes.result.now c.changes.ensures.changes (sym c.is_empty.ensures ∙ c.if-is_empty.false)
          (no_changes s (state_after c.get.result.now s) c.changes_to.ensures.sound (subst IsSound (sym (shown ∙ view)) c.requires.sound) batch c.in_ok-batch.ensures.changes (is ∙ sym shown));
      sound = subst IsSound (sym view) c.requires.sound;
      sizes = subst (λ (sizes : ClientSizes). IsSizeOf (state_after c.args.parts s) sizes) (sym c.in_ok-boxed.ensures.ok) (subst (λ (t : ClientState). IsSizeOf t c.args.sizes) (sym view) c.requires.sizes);
      ready = c.in_ok-ready.ensures.ready;
      batch = c.in_ok-ready.ensures.batch ∙ c.in_ok-batch.ensures.changes ∙ ap (row_changes s) shown;
    }
