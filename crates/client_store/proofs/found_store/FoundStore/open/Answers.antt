-- What is found, and why nothing is.
use Rattle.std.proofs.Common.{Err, ap, subst}
use Rattle.host_model.specs.declared.side.Side.TheVariants.{Left, Right}
use Rattle.pair_store.specs.declared.faults.PairFault.TheVariants.{NoStore, BadStore, DiskFault}
use Rattle.row_store.specs.Rows.{HasRows, HasPlace}
use Rattle.row_store.specs.Store.{StoredRows, RowsStandWithGate, place}
use Rattle.row_store.proofs.Folds.{fault_is, not_ok, one_map, phases_on}
use Rattle.client_state.specs.declared.client_state.ClientState.{ClientState}
use Rattle.client_state.specs.Forms.{IsForm}
use Rattle.client_store.specs.Store.{KeptFor}
use Rattle.client_store.proofs.Storing.{found_in}
use Rattle.client_store.proofs.found_store.FoundStore.open.Goals as goal

pub returns-in-Ok-clause-gate : goal.returns-in-Ok-clause-gate
returns-in-Ok-clause-gate g c tells =
    let h = g.H.Host in
    let start = c.args.host.now in
    found_in (λ (rows : StoredRows). (s : ClientState) → KeptFor (h.reads start Left) (h.reads start Right) s → RowsStandWithGate h rows c.open.new.host) c.in-Ok.rows c.state_in.result c.state_in.ensures.rows
    (λ s kept. c.in-Ok.ensures.gate tells kept.stored kept.rows)

pub returns-in-Ok-clause-place : goal.returns-in-Ok-clause-place
returns-in-Ok-clause-place g c tells =
    let h = g.H.Host in
    let start = c.args.host.now in
    found_in (λ (rows : StoredRows). HasPlace (h.reads start Left) (h.reads start Right) (place rows)) c.in-Ok.rows c.state_in.result c.state_in.ensures.rows (c.in-Ok.ensures.place tells)

pub returns-in-Ok-clause-rows : goal.returns-in-Ok-clause-rows
returns-in-Ok-clause-rows g c tells =
    let h = g.H.Host in
    let start = c.args.host.now in
    found_in (λ (rows : StoredRows). HasRows (h.reads start Left) (h.reads start Right) rows.rows) c.in-Ok.rows c.state_in.result c.state_in.ensures.rows (c.in-Ok.ensures.rows tells)

pub returns-in-Ok-clause-bad_store : goal.returns-in-Ok-clause-bad_store
returns-in-Ok-clause-bad_store g c tells is =
    let h = g.H.Host in
    record {
      found = λ none. not_ok c.in-Ok.rows (c.in-Ok.ensures.no_store_where tells none);
      no_state = λ s stands. c.state_in.ensures.none is s stands.sound
          (subst (IsForm s) (one_map (h.reads c.args.host.now Left) (h.reads c.args.host.now Right) stands.stored c.in-Ok.rows.rows stands.rows (c.in-Ok.ensures.rows tells)) stands.form);
    }

pub returns-in-Ok-clause-phases : goal.returns-in-Ok-clause-phases
returns-in-Ok-clause-phases g c tells = phases_on g.H.Host c.args.host.now c.open.new.host _ _ (λ other. cc) (c.in-Ok.ensures.phases tells)

pub returns-in-Ok-clause-left : goal.returns-in-Ok-clause-left
returns-in-Ok-clause-left g c tells sound = c.in-Ok.ensures.left tells (λ is. absurd cc)

pub returns-in-Ok-clause-disk_quiet : goal.returns-in-Ok-clause-disk_quiet
returns-in-Ok-clause-disk_quiet g c sound = c.in-Ok.ensures.disk_quiet (λ is. absurd cc)

pub returns-in-Err-clause-bad_store : goal.returns-in-Err-clause-bad_store
returns-in-Err-clause-bad_store g c tells is =
    let bad = c.in-Err.ensures.bad_store tells (ap Err (fault_is c.in-Err.fault BadStore is)) in
    record { found = bad.there; no_state = λ s stands. bad.no_rows stands.stored stands.rows }

pub returns-in-Err-clause-none_written : goal.returns-in-Err-clause-none_written
returns-in-Err-clause-none_written g c tells is = c.in-Err.ensures.none_written tells (ap Err (fault_is c.in-Err.fault NoStore is))

pub returns-in-Err-clause-phases : goal.returns-in-Err-clause-phases
returns-in-Err-clause-phases g c tells = phases_on g.H.Host c.args.host.now c.open.new.host _ _ (λ other. ap Err (fault_is c.in-Err.fault DiskFault other)) (c.in-Err.ensures.phases tells)

pub returns-in-Err-clause-left : goal.returns-in-Err-clause-left
returns-in-Err-clause-left g c tells sound = c.in-Err.ensures.left tells (λ is. sound (ap Err (fault_is c.in-Err.fault DiskFault is)))

pub returns-in-Err-clause-disk_quiet : goal.returns-in-Err-clause-disk_quiet
returns-in-Err-clause-disk_quiet g c sound = c.in-Err.ensures.disk_quiet (λ is. sound (ap Err (fault_is c.in-Err.fault DiskFault is)))
