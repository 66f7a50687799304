-- An answer is said behind what was written.
use Rattle.std.proofs.Common.{◌≡◌, inl, inr, ℕ, List, ◌++◌, take, ◌∙◌, ap}
use Rattle.host_model.specs.declared.host.Host.{Ghosts}
use Rattle.host_model.specs.Hosts.{MeetsAll}
use Rattle.host_model.specs.Moments.{IsSaying}
use Rattle.host_model.proofs.Meeting.{then_met, met_weaker}
use Rattle.client_state.specs.declared.client_state.ClientState.{ClientState}
use Rattle.client_store.specs.Moments.{WhileWritten}
use Rattle.client_store.specs.OpenStore.{AllKept}
use Rattle.session_run.specs.Moments.{DuringLine}

module _ {H : Type 0} (h : Ghosts H) (start : H) where
  -- the write has failed
  pub written_met : (new : H) (s t : ClientState) (text : List ℕ) → MeetsAll h start new (WhileWritten (h.said start) s t) → MeetsAll h start new (DuringLine (h.said start) s t text)
  written_met new s t text run = met_weaker h.moment h.might start new _ (DuringLine (h.said start) s t text) run (λ l r u met. inl met)

  -- a line's moments: its change is written, and then its answer is said
  pub line_met : (mid new : H) (s t : ClientState) (text : List ℕ) → MeetsAll h start mid (WhileWritten (h.said start) s t) → h.said mid ≡ h.said start → AllKept h mid t
      → MeetsAll h mid new (IsSaying (h.images mid) (h.said mid) text) → MeetsAll h start new (DuringLine (h.said start) s t text)
  line_met mid new s t text run same kept saying =
      then_met h.moment h.might start mid new _ _ (DuringLine (h.said start) s t text) run saying (λ l r u met. inl met)
      (λ l r u met. inr (kept l r met.0 met.1, (met.2.0, met.2.1 ∙ ap (λ (d : List ℕ). d ++ take met.2.0 text) same)))

  -- nothing is written
  pub said_met : (new : H) (s : ClientState) (text : List ℕ) → AllKept h start s → MeetsAll h start new (IsSaying (h.images start) (h.said start) text) → MeetsAll h start new (DuringLine (h.said start) s s text)
  said_met new s text kept saying =
      met_weaker h.moment h.might start new _ (DuringLine (h.said start) s s text) saying (λ l r u met. inr (kept l r met.0 met.1, met.2))
