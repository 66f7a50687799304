-- What is promised of the opening of a store, of the client that has it.
use Rattle.std.specs.Prelude.{Result, Ok, Err}
use Rattle.host_model.specs.declared.host.Host.{Ghosts}
use Rattle.pair_store.specs.declared.faults.PairFault.{PairFault}
use Rattle.client_store.specs.Openings as stores
use Rattle.client_core.specs.declared.client.Client.{Client}

-- the store is open: the client has the state for which the pair stood that reads gave
abbrev pub IsOpened : {H : Type 0} → Ghosts H → Client → H → H → Type 0
IsOpened h client start new = stores.IsOpened h client.store start new

abbrev pub OpenEnds : {H : Type 0} → Ghosts H → H → H → Result Client PairFault → Type 0
OpenEnds h start new (Ok client) = IsOpened h client start new
OpenEnds h start new (Err fault) = stores.IsUnopened h fault start new
