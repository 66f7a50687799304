-- What a host holds on which a client is open.
use Rattle.std.proofs.Common.{◌≡◌}
use Rattle.host_model.specs.declared.host.Host.{Ghosts}
use Rattle.host_model.specs.declared.side.Side.{Side}
use Rattle.host_model.specs.Moments.{KeepsSide}
use Rattle.client_store.specs.OpenStore.{AreDurable, AllKept, AllStand}
use Rattle.client_store.proofs.Holding as stores
use Rattle.client_core.specs.declared.client.Client.{Client}
use Rattle.client_core.specs.Clients.{state_of, end_of, IsOpenOn, HasGateOn, IsSameClient}

module _ {H : Type 0} (h : Ghosts H) (client : Client) (host : H) (open_on : IsOpenOn h client host) where
  pub all_stand : AllStand h host (state_of client)
  all_stand = stores.all_stand h client.store host open_on

  pub all_kept : HasGateOn h client host → AllKept h host (state_of client)
  all_kept gated = stores.all_kept h client.store host open_on gated

  pub settled : AreDurable h host
  settled = stores.settled h client.store host open_on

-- and one with the same rows
module _ (old new : Client) (same : IsSameClient old new) where
  pub end_again : end_of new ≡ end_of old
  end_again = stores.end_again old.store new.store same.stored

  module _ {H : Type 0} (h : Ghosts H) (host : H) where
    pub open_again : IsOpenOn h old host → IsOpenOn h new host
    open_again open_on = stores.open_again old.store new.store same.stored h host open_on

    pub gate_again : HasGateOn h old host → HasGateOn h new host
    gate_again gated = stores.gate_again old.store new.store same.stored h host gated

-- saying changes nothing on the sides
module _ {H : Type 0} (h : Ghosts H) (mid new : H) (still : (side : Side) → KeepsSide h.reads h.images side mid new) where
  pub open_said : (client : Client) → IsOpenOn h client mid → IsOpenOn h client new
  open_said client open_on = stores.open_said h mid new still client.store open_on

  pub gate_said : (client : Client) → HasGateOn h client mid → HasGateOn h client new
  gate_said client gated = stores.gate_said h mid new still client.store gated
