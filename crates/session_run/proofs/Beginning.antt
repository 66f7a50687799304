-- A store is made, and then said to be ready.
use Rattle.std.proofs.Common.{◌≡◌, inl, inr, ℕ, List, ◌++◌, take, ◌∙◌, ap}
use Rattle.host_model.specs.declared.side.Side.{Side}
use Rattle.host_model.specs.declared.side.Side.TheVariants.{Left, Right}
use Rattle.host_model.specs.declared.host.Host.{Ghosts}
use Rattle.host_model.specs.Hosts.{MeetsAll}
use Rattle.host_model.specs.Moments.{IsSaying, Elapses, KeepsSide}
use Rattle.host_model.proofs.Meeting.{goes_on, met_weaker}
use Rattle.client_state.specs.declared.client_state.ClientState.{ClientState}
use Rattle.client_store.specs.Moments.{IsQuiet}
use Rattle.client_store.specs.OpenStore.{AllKept}
use Rattle.session_run.specs.Making.{DuringMaking}

module _ {H : Type 0} (h : Ghosts H) (start mid new : H) (s : ClientState) (text : List ℕ) where
  -- the store is made, and its answer is said
  pub said_met : ((side : Side) → KeepsSide h.reads h.images side mid new) → AllKept h mid s → MeetsAll h start mid (IsQuiet (h.said start)) → h.said mid ≡ h.said start
      → Elapses (h.moment mid) (h.moment new) (h.might mid) (h.might new) (IsSaying (h.images new) (h.said mid) text) → MeetsAll h start new (DuringMaking (h.said start) s text)
  said_met still kept run same time =
      goes_on h.moment h.might start mid new (DuringMaking (h.said start) s text) _
      (met_weaker h.moment h.might start mid _ (DuringMaking (h.said start) s text) run (λ l r u quiet. inl quiet)) time
      (λ l r u saying. inr (kept l r (((still Left).images_same l).0 saying.0) (((still Right).images_same r).0 saying.1), (saying.2.0, saying.2.1 ∙ ap (λ (d : List ℕ). d ++ take saying.2.0 text) same)))
