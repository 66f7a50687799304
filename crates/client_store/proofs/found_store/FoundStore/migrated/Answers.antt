-- Rows that are the old form are written anew, and others are left.
use Rattle.std.proofs.Common.{◌≡◌, ◌∙◌, sym, ap, subst, arith}
use Rattle.std.specs.Prelude.{IsTrue}
use Rattle.host_model.specs.Hosts.{MeetsAll}
use Rattle.row_store.specs.Ready.{commit_cost}
use Rattle.row_store.specs.Store.{StoredRows, RowsStand, RowsStandWithGate, place}
use Rattle.client_state.specs.Forms.{needs_migration}
use Rattle.client_store.specs.Migrations.{IsMigration, IsMigrationOf, opening_bytes}
use Rattle.client_store.specs.Moments.{IsLeftAs}
use Rattle.client_store.proofs.Migrating.{stands_again, gate_stays, left_unwritten, place_stays, no_bytes, was_needed, bytes_written, place_moves, left_written}
use Rattle.client_store.proofs.Moments.{still_now, still_below}
use Rattle.client_store.proofs.found_store.FoundStore.migrated.Given.{Over}
use Rattle.client_store.proofs.found_store.FoundStore.migrated.Goals.{After-migration_of, After-commit}
use Rattle.client_store.proofs.found_store.FoundStore.migrated.Goals as goal

-- ---- nothing is written

unwritten : (g : Over) (c : After-migration_of g) → g.H.Host.tells → RowsStandWithGate g.H.Host c.args.self.rows c.args.host.now → MeetsAll g.H.Host c.args.host.now c.args.host.now (IsLeftAs (g.H.Host.said c.args.host.now) c.args.self.state)
unwritten g c tells =
    let old = c.args.host.now in
    let same = c.migration_of.ensures in
    left_unwritten g.H.Host c.args.self c.requires.found c.migration_of.new.rows same.records same.rows old (still_now g.H.Host old tells (g.met.H.Host.only_now old))

-- memory is wanting
pub returns-in-Err-clause-any_moment : goal.returns-in-Err-clause-any_moment
returns-in-Err-clause-any_moment g c = unwritten g (goal.at.returns-in-Err-clause-any_moment g c).After-migration_of

pub returns-in-Err-clause-below : goal.returns-in-Err-clause-below
returns-in-Err-clause-below g c tells = still_below g.H.Host c.args.host.now tells (g.met.H.Host.only_now c.args.host.now)

-- the rows are the state's
pub returns-in-Ok-None-clause-any_moment : goal.returns-in-Ok-None-clause-any_moment
returns-in-Ok-None-clause-any_moment g c = unwritten g (goal.at.returns-in-Ok-None-clause-any_moment g c).After-migration_of

pub returns-in-Ok-None-clause-below : goal.returns-in-Ok-None-clause-below
returns-in-Ok-None-clause-below g c tells = still_below g.H.Host c.args.host.now tells (g.met.H.Host.only_now c.args.host.now)

pub returns-in-Ok-None-clause-stands : goal.returns-in-Ok-None-clause-stands
returns-in-Ok-None-clause-stands g c tells =
    let h = g.H.Host in
    let old = c.args.host.now in
    let same = c.migration_of.ensures in
    subst (λ (stored : StoredRows). RowsStand h stored old) (sym c.new.ensures.rows) (stands_again h c.args.self c.requires.found c.migration_of.new.rows same.records same.rows old (c.requires.stands tells))

pub returns-in-Ok-None-clause-gate : goal.returns-in-Ok-None-clause-gate
returns-in-Ok-None-clause-gate g c tells gated =
    let h = g.H.Host in
    let old = c.args.host.now in
    let same = c.migration_of.ensures in
    subst (λ (stored : StoredRows). RowsStandWithGate h stored old) (sym c.new.ensures.rows) (gate_stays h c.args.self c.requires.found c.migration_of.new.rows same.records same.rows old gated)

pub returns-in-Ok-None-clause-place : goal.returns-in-Ok-None-clause-place
returns-in-Ok-None-clause-place g c =
    let same = c.migration_of.ensures in
    ap place c.new.ensures.rows ∙ place_stays g.H.Host c.args.self c.requires.found c.migration_of.new.rows same.records same.rows c.args.host.now (subst (IsMigration c.args.self.state c.migration_of.new.rows) c.in-Ok-None.field-0-is c.in-Ok-None.ensures.migration).0

pub returns-in-Ok-None-clause-cost : goal.returns-in-Ok-None-clause-cost
returns-in-Ok-None-clause-cost g c tells =
    let same = c.migration_of.ensures in
    let none = no_bytes g.H.Host c.args.self c.requires.found c.migration_of.new.rows same.records same.rows c.args.host.now (subst (IsMigration c.args.self.state c.migration_of.new.rows) c.in-Ok-None.field-0-is c.in-Ok-None.ensures.migration).0 in
    record { exact = omega (arith, none); least = omega arith; most = omega arith }

-- ---- they are written anew

pub commit-requires-clause-stands : goal.commit-requires-clause-stands
commit-requires-clause-stands g c tells =
    let same = c.migration_of.ensures in
    stands_again g.H.Host c.args.self c.requires.found c.migration_of.new.rows same.records same.rows c.args.host.now (c.requires.stands tells)

module _ (g : Over) (c : After-commit g) where
  of : IsMigrationOf c.args.self.state c.migration_of.new.rows c.in-Ok-Some.ready
  of = subst (IsMigration c.args.self.state c.migration_of.new.rows) c.in-Ok-Some.field-0-is c.in-Ok-Some.ensures.migration

  needed : IsTrue (needs_migration c.args.self.rows.rows)
  needed = let same = c.migration_of.ensures in was_needed g.H.Host c.args.self c.requires.found c.migration_of.new.rows same.records same.rows c.args.host.now c.in-Ok-Some.ready of

  bytes : commit_cost c.in-Ok-Some.ready ≡ opening_bytes (needs_migration c.args.self.rows.rows) (place c.args.self.rows) c.args.self.state
  bytes = let same = c.migration_of.ensures in bytes_written g.H.Host c.args.self c.requires.found c.migration_of.new.rows same.records same.rows c.args.host.now c.in-Ok-Some.ready of

  moments : g.H.Host.tells → RowsStandWithGate g.H.Host c.args.self.rows c.args.host.now → MeetsAll g.H.Host c.args.host.now c.commit.new.host (IsLeftAs (g.H.Host.said c.args.host.now) c.args.self.state)
  moments tells =
      let same = c.migration_of.ensures in
      left_written g.H.Host c.args.self c.requires.found c.migration_of.new.rows same.records same.rows c.args.host.now c.in-Ok-Some.ready of c.commit.new.host (c.commit.ensures.any_moment tells)

pub returns-in-Ok-clause-any_moment : goal.returns-in-Ok-clause-any_moment
returns-in-Ok-clause-any_moment g c = moments g (goal.at.returns-in-Ok-clause-any_moment g c).After-commit

pub returns-in-Err-commit-clause-any_moment : goal.returns-in-Err-commit-clause-any_moment
returns-in-Err-commit-clause-any_moment g c = moments g (goal.at.returns-in-Err-commit-clause-any_moment g c).After-commit

pub returns-in-Ok-clause-unneeded : goal.returns-in-Ok-clause-unneeded
returns-in-Ok-clause-unneeded g c never = absurd (never (needed g (goal.at.returns-in-Ok-clause-unneeded g c).After-commit))

pub returns-in-Err-commit-clause-unneeded : goal.returns-in-Err-commit-clause-unneeded
returns-in-Err-commit-clause-unneeded g c never = absurd (never (needed g (goal.at.returns-in-Err-commit-clause-unneeded g c).After-commit))

pub returns-in-Ok-clause-place : goal.returns-in-Ok-clause-place
returns-in-Ok-clause-place g c =
    let same = c.migration_of.ensures in
    ap place c.new-in-Ok.ensures.rows ∙ c.in-Ok.ensures.place
    ∙ place_moves g.H.Host c.args.self c.requires.found c.migration_of.new.rows same.records same.rows c.args.host.now c.in-Ok-Some.ready (of g (goal.at.returns-in-Ok-clause-place g c).After-commit)

pub returns-in-Ok-clause-cost : goal.returns-in-Ok-clause-cost
returns-in-Ok-clause-cost g c tells =
    let is = bytes g (goal.at.returns-in-Ok-clause-cost g c).After-commit in
    let cost = c.in-Ok.ensures.cost tells in
    record { exact = omega (arith, cost.exact, is); least = cost.least; most = omega (arith, cost.most, is) }

pub returns-in-Err-commit-clause-cost : goal.returns-in-Err-commit-clause-cost
returns-in-Err-commit-clause-cost g c tells =
    let is = bytes g (goal.at.returns-in-Err-commit-clause-cost g c).After-commit in
    let cost = c.in-Err-commit.ensures.cost tells in
    record { exact = tt; least = cost.least; most = omega (arith, cost.most, is) }
