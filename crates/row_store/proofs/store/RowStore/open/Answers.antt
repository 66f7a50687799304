use Rattle.std.proofs.Common.{Err, inl, inr, ap}
use Rattle.pair_store.specs.declared.faults.PairFault.TheVariants.{NoStore, BadStore, DiskFault}
use Rattle.host_model.specs.declared.side.Side.TheVariants.{Left, Right}
use Rattle.row_store.proofs.Folds.{failed, failed_too, fault_is, fold_same, not_ok, phases_on}
use Rattle.row_store.specs.Store.{StoredRows}
use Rattle.row_store.proofs.Gates.{kept_gate}
use Rattle.row_store.proofs.store.RowStore.open.Goals as goal

pub returns-in-Ok-rows_of-clause-bad_store_where : goal.returns-in-Ok-rows_of-clause-bad_store_where
returns-in-Ok-rows_of-clause-bad_store_where g c tells bad =
    absurd (bad.no_rows c.in-Ok-rows_of.rows.rows (c.in-Ok.payloads, c.in-Ok.ensures.list tells, c.in-Ok-rows_of.ensures.rows))

pub returns-in-Err-rows_of-clause-opened_where : goal.returns-in-Err-rows_of-clause-opened_where
returns-in-Err-rows_of-clause-opened_where g c tells rows has =
    let h = g.H.Host in
    let host = c.args.host.now in
    inr (failed c.in-Err-rows_of.fault (λ is. c.in-Err-rows_of.ensures.none (ap Err is) rows (fold_same (h.reads host Left) (h.reads host Right) c.in-Ok.payloads rows (c.in-Ok.ensures.list tells) has)) (λ is. c.in-Err-rows_of.ensures.no_other.0 (ap Err is)))

pub returns-in-Err-rows_of-clause-bad_store : goal.returns-in-Err-rows_of-clause-bad_store
returns-in-Err-rows_of-clause-bad_store g c tells is =
    let h = g.H.Host in
    let host = c.args.host.now in
    record {
      there = λ none. not_ok (c.in-Ok.pair, c.in-Ok.payloads) (c.in-Ok.ensures.no_store_where tells none);
      no_rows = λ rows has. c.in-Err-rows_of.ensures.none (ap Err (fault_is c.in-Err-rows_of.fault BadStore is)) rows (fold_same (h.reads host Left) (h.reads host Right) c.in-Ok.payloads rows (c.in-Ok.ensures.list tells) has);
    }

pub returns-in-Err-clause-opened_where : goal.returns-in-Err-clause-opened_where
returns-in-Err-clause-opened_where g c tells rows has = failed_too c.in-Err.fault (c.in-Err.ensures.opened_where tells has.0 has.1)

pub returns-in-Err-clause-bad_store : goal.returns-in-Err-clause-bad_store
returns-in-Err-clause-bad_store g c tells is =
    let bad = c.in-Err.ensures.bad_store tells (ap Err (fault_is c.in-Err.fault BadStore is)) in
    record { there = bad.open_side; no_rows = λ rows has. bad.no_list has.0 has.1 }

pub returns-in-Ok-rows_of-clause-gate : goal.returns-in-Ok-rows_of-clause-gate
returns-in-Ok-rows_of-clause-gate g c tells rows kept =
    let h = g.H.Host in
    let host = c.args.host.now in
    let store : StoredRows = record { records = c.in-Ok.pair; rows = c.in-Ok-rows_of.rows.rows; room = c.in-Ok-rows_of.rows.room } in
    kept_gate h (h.reads host Left) (h.reads host Right) store c.open.new.host c.in-Ok.payloads (c.in-Ok.ensures.list tells) c.in-Ok-rows_of.ensures.rows (c.in-Ok.ensures.gate tells) rows kept

pub returns-in-Ok-rows_of-clause-place : goal.returns-in-Ok-rows_of-clause-place
returns-in-Ok-rows_of-clause-place g c tells = (c.in-Ok.payloads, c.in-Ok.ensures.list tells, (c.in-Ok.ensures.opened tells).side.place)

pub returns-in-Ok-rows_of-clause-phases : goal.returns-in-Ok-rows_of-clause-phases
returns-in-Ok-rows_of-clause-phases g c tells = phases_on g.H.Host c.args.host.now c.open.new.host _ _ (λ other. cc) (c.in-Ok.ensures.phases tells)

pub returns-in-Err-rows_of-clause-phases : goal.returns-in-Err-rows_of-clause-phases
returns-in-Err-rows_of-clause-phases g c tells = phases_on g.H.Host c.args.host.now c.open.new.host _ _ (λ other. cc) (c.in-Ok.ensures.phases tells)

pub returns-in-Err-clause-phases : goal.returns-in-Err-clause-phases
returns-in-Err-clause-phases g c tells = phases_on g.H.Host c.args.host.now c.open.new.host _ _ (λ other. ap Err (fault_is c.in-Err.fault DiskFault other)) (c.in-Err.ensures.phases tells)

pub returns-in-Ok-rows_of-clause-left : goal.returns-in-Ok-rows_of-clause-left
returns-in-Ok-rows_of-clause-left g c tells healthy = c.in-Ok.ensures.left tells (λ other. cc)

pub returns-in-Err-rows_of-clause-left : goal.returns-in-Err-rows_of-clause-left
returns-in-Err-rows_of-clause-left g c tells healthy = c.in-Ok.ensures.left tells (λ other. cc)

pub returns-in-Err-clause-left : goal.returns-in-Err-clause-left
returns-in-Err-clause-left g c tells healthy = c.in-Err.ensures.left tells (λ other. healthy (ap Err (fault_is c.in-Err.fault DiskFault other)))

pub returns-in-Ok-rows_of-clause-disk_quiet : goal.returns-in-Ok-rows_of-clause-disk_quiet
returns-in-Ok-rows_of-clause-disk_quiet g c healthy = c.in-Ok.ensures.disk_quiet (λ other. cc)

pub returns-in-Err-rows_of-clause-disk_quiet : goal.returns-in-Err-rows_of-clause-disk_quiet
returns-in-Err-rows_of-clause-disk_quiet g c healthy = c.in-Ok.ensures.disk_quiet (λ other. cc)

pub returns-in-Err-clause-disk_quiet : goal.returns-in-Err-clause-disk_quiet
returns-in-Err-clause-disk_quiet g c healthy = c.in-Err.ensures.disk_quiet (λ other. healthy (ap Err (fault_is c.in-Err.fault DiskFault other)))

pub returns-in-Err-rows_of-clause-none_written : goal.returns-in-Err-rows_of-clause-none_written
returns-in-Err-rows_of-clause-none_written g c tells is = absurd (c.in-Err-rows_of.ensures.no_other.0 (ap Err (fault_is c.in-Err-rows_of.fault NoStore is)))

pub returns-in-Err-clause-none_written : goal.returns-in-Err-clause-none_written
returns-in-Err-clause-none_written g c tells is = c.in-Err.ensures.refused tells (inl (ap Err (fault_is c.in-Err.fault NoStore is)))
