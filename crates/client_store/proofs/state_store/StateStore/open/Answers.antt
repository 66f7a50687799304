-- A store is opened: what stands at its end and at each moment.
use Rattle.std.proofs.Common.{Err, ap, ◌∙◌}
use Rattle.host_model.specs.declared.side.Side.TheVariants.{Left, Right}
use Rattle.pair_store.specs.declared.faults.PairFault.TheVariants.{DiskFault}
use Rattle.client_store.proofs.Moments.{still_now, text_below, then_below}
use Rattle.row_store.proofs.Folds.{fault_is}
use Rattle.client_store.proofs.Judging.{ends_judge, open_finds}
use Rattle.client_store.proofs.Openings.{phases, phases_left, left_still, reading_phases, migrated_ends, unopened}
use Rattle.client_store.proofs.state_store.StateStore.open.Goals as goal

-- ---- it is found

pub returns-in-Ok-clause-below : goal.returns-in-Ok-clause-below
returns-in-Ok-clause-below g c tells =
    let mid = c.open.new.host in
    then_below g.H.Host c.args.host.now mid tells (g.met.H.Host.counts_now mid) (g.met.H.Host.read_is_image mid) (c.open.ensures.below tells) c.migrated.new.host (c.migrated.ensures.below tells)

pub returns-in-Ok-clause-text : goal.returns-in-Ok-clause-text
returns-in-Ok-clause-text g c tells =
    let new = c.migrated.new.host in
    text_below g.H.Host c.args.host.now new tells (g.met.H.Host.counts_now new) (g.met.H.Host.read_is_image new) (returns-in-Ok-clause-below g c tells)

pub returns-in-Ok-clause-phases : goal.returns-in-Ok-clause-phases
returns-in-Ok-clause-phases g c tells =
    let h = g.H.Host in
    let start = c.args.host.now in
    let mid = c.open.new.host in
    let opening = c.in-Ok.ensures in
    let migrated = c.migrated.ensures in
    let text = text_below h start mid tells (g.met.H.Host.counts_now mid) (g.met.H.Host.read_is_image mid) (c.open.ensures.below tells) in
    phases h start c.in-Ok.found opening.found (opening.rows tells) (opening.place tells) mid c.migrated.new.host text (opening.phases tells) (opening.opened tells) (opening.gate tells) migrated.unneeded (migrated.any_moment tells)
    (migrated.below tells) (opening.left tells (λ is. absurd cc)) (still_now h mid tells (g.met.H.Host.only_now mid)) _

pub returns-in-Ok-clause-ends : goal.returns-in-Ok-clause-ends
returns-in-Ok-clause-ends g c tells =
    let opening = c.in-Ok.ensures in
    let migrated = c.migrated.ensures in
    migrated_ends g.H.Host c.args.host.now c.in-Ok.found opening.found (opening.rows tells) (opening.place tells) c.open.new.host c.migrated.new.host (opening.cost tells).exact _ migrated.stored migrated.state (migrated.stands tells)
    (migrated.gate tells) (migrated.gate_made tells) migrated.place (migrated.cost tells) migrated.no_other migrated.memory (opening.gate tells) (opening.left tells (λ is. absurd cc)) (c.open.ensures.any_moment tells)

pub returns-in-Ok-clause-judges : goal.returns-in-Ok-clause-judges
returns-in-Ok-clause-judges g c tells = ends_judge g.H.Host c.args.host.now c.migrated.new.host _ (returns-in-Ok-clause-ends g c tells)

pub returns-in-Ok-clause-left : goal.returns-in-Ok-clause-left
returns-in-Ok-clause-left g c tells states all =
    let start = c.args.host.now in
    phases_left g.H.Host start (g.met.H.Host.read_is_image start Left tells) (g.met.H.Host.read_is_image start Right tells) c.migrated.new.host states all _ (returns-in-Ok-clause-phases g c tells)

pub returns-in-Ok-clause-only_read : goal.returns-in-Ok-clause-only_read
returns-in-Ok-clause-only_read g c tells none = let rows = c.in-Ok.ensures.rows tells in absurd (none rows.0 rows.1)

pub returns-in-Ok-clause-disk_quiet : goal.returns-in-Ok-clause-disk_quiet
returns-in-Ok-clause-disk_quiet g c sound = c.migrated.ensures.disk_quiet sound ∙ c.in-Ok.ensures.disk_quiet (λ is. absurd cc)

-- ---- nothing is found

pub returns-in-Err-clause-text : goal.returns-in-Err-clause-text
returns-in-Err-clause-text g c tells =
    let new = c.open.new.host in
    text_below g.H.Host c.args.host.now new tells (g.met.H.Host.counts_now new) (g.met.H.Host.read_is_image new) (c.open.ensures.below tells)

pub returns-in-Err-clause-phases : goal.returns-in-Err-clause-phases
returns-in-Err-clause-phases g c tells =
    let h = g.H.Host in
    let start = c.args.host.now in
    let new = c.open.new.host in
    reading_phases h start new c.in-Err.fault (c.in-Err.ensures.phases tells) (λ sound. c.in-Err.ensures.left tells (λ is. sound (fault_is c.in-Err.fault DiskFault is)))
    (λ is. left_still h start new (returns-in-Err-clause-text g c tells) is (still_now h new tells (g.met.H.Host.only_now new)))

pub returns-in-Err-clause-ends : goal.returns-in-Err-clause-ends
returns-in-Err-clause-ends g c tells =
    let h = g.H.Host in
    let start = c.args.host.now in
    let opening = c.in-Err.ensures in
    unopened h start c.open.new.host c.in-Err.fault (open_finds (h.reads start Left) (h.reads start Right) c.in-Err.fault (λ is. opening.no_store tells (ap Err is)) (λ is. opening.bad_store tells (ap Err is)))
    (λ is. opening.none_written tells (ap Err is)) (λ sound. opening.left tells (λ is. sound (fault_is c.in-Err.fault DiskFault is))) (c.open.ensures.any_moment tells) (opening.cost tells).most

pub returns-in-Err-clause-judges : goal.returns-in-Err-clause-judges
returns-in-Err-clause-judges g c tells = ends_judge g.H.Host c.args.host.now c.open.new.host _ (returns-in-Err-clause-ends g c tells)

pub returns-in-Err-clause-left : goal.returns-in-Err-clause-left
returns-in-Err-clause-left g c tells states all =
    let start = c.args.host.now in
    phases_left g.H.Host start (g.met.H.Host.read_is_image start Left tells) (g.met.H.Host.read_is_image start Right tells) c.open.new.host states all _ (returns-in-Err-clause-phases g c tells)

pub returns-in-Err-clause-disk_quiet : goal.returns-in-Err-clause-disk_quiet
returns-in-Err-clause-disk_quiet g c sound = c.in-Err.ensures.disk_quiet (λ is. sound (ap Err (fault_is c.in-Err.fault DiskFault is)))
