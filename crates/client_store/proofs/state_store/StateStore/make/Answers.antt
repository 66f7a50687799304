-- A store is made where there is none.
use Rattle.std.proofs.Common.{◌≡◌, Err, Result, IsErrOf, ap, refl, sym, subst, ℕ, List, length, ◌+◌, ◌∙◌, ⊎_elim}
use Rattle.host_model.specs.declared.side.Side.TheVariants.{Left, Right}
use Rattle.host_model.specs.Hosts.{MeetsAll}
use Rattle.pair_store.specs.declared.faults.PairFault.TheVariants as opening
use Rattle.pair_store.specs.Moments.{StaysBelow}
use Rattle.client_store.proofs.Moments.{below_quiet, still_below, still_now, text_below, then_below}
use Rattle.row_store.specs.Rows.{HasRows, HasPlace}
use Rattle.client_state.specs.declared.client_state.ClientState.{ClientState}
use Rattle.client_store.specs.declared.faults.MakeFault.{MakeFault}
use Rattle.client_store.specs.declared.faults.MakeFault.TheVariants.{DiskFault}
use Rattle.client_store.specs.Makings.{MakePhases}
use Rattle.client_store.specs.Moments.{IsLeftAmong}
use Rattle.client_store.specs.NewStates.{fresh}
use Rattle.client_store.specs.OpenStore.{AllKeptAmong}
use Rattle.client_store.specs.Store.{IsAbsent}
use Rattle.client_store.proofs.Judging.{unmade_judges}
use Rattle.client_store.proofs.NewStores.{not_refused, refused_finds, failed_alike, make_fault_is, opening_phases, making_phases}
use Rattle.client_store.proofs.Refusing.{among_not_absent}
use Rattle.client_store.proofs.Repairing.{opening_left}
use Rattle.client_store.proofs.state_store.StateStore.make.Given.{Over}
use Rattle.client_store.proofs.state_store.StateStore.make.Goals.{After-make}
use Rattle.client_store.proofs.state_store.StateStore.make.Goals as goal

-- ---- memory is wanting

pub returns-in_err-first-clause-below : goal.returns-in_err-first-clause-below
returns-in_err-first-clause-below g c tells = still_below g.H.Host c.args.host.now tells (g.met.H.Host.only_now c.args.host.now)

pub returns-in_err-first-clause-only_read : goal.returns-in_err-first-clause-only_read
returns-in_err-first-clause-only_read g c tells there none = record { moments = still_now g.H.Host c.args.host.now tells (g.met.H.Host.only_now c.args.host.now); cost = refl }

-- ---- there is none, and one is made

pub make-requires-clause-closed : goal.make-requires-clause-closed
make-requires-clause-closed g c tells = c.open.ensures.none_open tells (not_refused c.open.result (sym c.refusal.ensures ∙ c.in-None.is))

module _ (g : Over) (c : After-make g) where
  none : IsErrOf c.open.result opening.NoStore
  none = not_refused c.open.result (sym c.refusal.ensures ∙ c.in-None.is)

  module _ (tells : g.H.Host.tells) where
    absent : IsAbsent (g.H.Host.reads c.args.host.now Left) (g.H.Host.reads c.args.host.now Right)
    absent = c.open.ensures.no_store tells none

    below : MeetsAll g.H.Host c.args.host.now c.make.new.host (StaysBelow g.H.Host c.args.host.now)
    below =
        let mid = c.open.new.host in
        then_below g.H.Host c.args.host.now mid tells (g.met.H.Host.counts_now mid) (g.met.H.Host.read_is_image mid) (c.open.ensures.below tells) c.make.new.host (c.make.ensures.below tells)

    text : g.H.Host.said c.make.new.host ≡ g.H.Host.said c.args.host.now
    text = let new = c.make.new.host in text_below g.H.Host c.args.host.now new tells (g.met.H.Host.counts_now new) (g.met.H.Host.read_is_image new) below

    left : (states : List ClientState) → AllKeptAmong g.H.Host c.args.host.now states → MeetsAll g.H.Host c.args.host.now c.make.new.host (IsLeftAmong (g.H.Host.said c.args.host.now) states)
    left states all =
        let h = g.H.Host in
        let start = c.args.host.now in
        absurd (among_not_absent (h.reads start Left) (h.reads start Right) states (all (h.reads start Left) (h.reads start Right) (g.met.H.Host.read_is_image start Left tells) (g.met.H.Host.read_is_image start Right tells)) absent)

    phases : {T : Type 0} (made : Result T MakeFault) → MakePhases g.H.Host (fresh c.args.id c.args.now) c.args.host.now c.make.new.host made
    phases made =
        making_phases g.H.Host (fresh c.args.id c.args.now) c.args.host.now c.open.new.host c.make.new.host _ made c.in_ok-first.ensures.text absent (c.open.ensures.only_read tells) (c.open.ensures.none_written tells none)
        (c.make.ensures.any_moment tells)

pub returns-in_err-make-in-None-clause-below : goal.returns-in_err-make-in-None-clause-below
returns-in_err-make-in-None-clause-below g c tells = below g (goal.at.returns-in_err-make-in-None-clause-below g c).After-make tells

pub returns-in_err-make-in-None-clause-any_moment : goal.returns-in_err-make-in-None-clause-any_moment
returns-in_err-make-in-None-clause-any_moment g c tells = below_quiet g.H.Host c.args.host.now c.make.new.host (below g (goal.at.returns-in_err-make-in-None-clause-any_moment g c).After-make tells)

pub returns-in_err-make-in-None-clause-text : goal.returns-in_err-make-in-None-clause-text
returns-in_err-make-in-None-clause-text g c tells = text g (goal.at.returns-in_err-make-in-None-clause-text g c).After-make tells

pub returns-in_err-make-in-None-clause-left : goal.returns-in_err-make-in-None-clause-left
returns-in_err-make-in-None-clause-left g c tells = left g (goal.at.returns-in_err-make-in-None-clause-left g c).After-make tells

pub returns-in_err-make-in-None-clause-phases : goal.returns-in_err-make-in-None-clause-phases
returns-in_err-make-in-None-clause-phases g c tells = phases g (goal.at.returns-in_err-make-in-None-clause-phases g c).After-make tells _

pub returns-in_err-make-in-None-clause-opening : goal.returns-in_err-make-in-None-clause-opening
returns-in_err-make-in-None-clause-opening g c tells there = absurd (there (absent g (goal.at.returns-in_err-make-in-None-clause-opening g c).After-make tells))

pub returns-in_err-make-in-None-clause-quiet : goal.returns-in_err-make-in-None-clause-quiet
returns-in_err-make-in-None-clause-quiet g c tells there = absurd (there (absent g (goal.at.returns-in_err-make-in-None-clause-quiet g c).After-make tells))

pub returns-in_err-make-in-None-clause-only_read : goal.returns-in_err-make-in-None-clause-only_read
returns-in_err-make-in-None-clause-only_read g c tells there none_listed = absurd (there (absent g (goal.at.returns-in_err-make-in-None-clause-only_read g c).After-make tells))

pub returns-in-None-clause-below : goal.returns-in-None-clause-below
returns-in-None-clause-below g c tells = below g (goal.at.returns-in-None-clause-below g c).After-make tells

pub returns-in-None-clause-any_moment : goal.returns-in-None-clause-any_moment
returns-in-None-clause-any_moment g c tells = below_quiet g.H.Host c.args.host.now c.make.new.host (below g (goal.at.returns-in-None-clause-any_moment g c).After-make tells)

pub returns-in-None-clause-text : goal.returns-in-None-clause-text
returns-in-None-clause-text g c tells = text g (goal.at.returns-in-None-clause-text g c).After-make tells

pub returns-in-None-clause-left : goal.returns-in-None-clause-left
returns-in-None-clause-left g c tells = left g (goal.at.returns-in-None-clause-left g c).After-make tells

pub returns-in-None-clause-phases : goal.returns-in-None-clause-phases
returns-in-None-clause-phases g c tells = phases g (goal.at.returns-in-None-clause-phases g c).After-make tells _

pub returns-in-None-clause-opening : goal.returns-in-None-clause-opening
returns-in-None-clause-opening g c tells there = absurd (there (absent g (goal.at.returns-in-None-clause-opening g c).After-make tells))

pub returns-in-None-clause-quiet : goal.returns-in-None-clause-quiet
returns-in-None-clause-quiet g c tells there = absurd (there (absent g (goal.at.returns-in-None-clause-quiet g c).After-make tells))

pub returns-in-None-clause-only_read : goal.returns-in-None-clause-only_read
returns-in-None-clause-only_read g c tells there none_listed = absurd (there (absent g (goal.at.returns-in-None-clause-only_read g c).After-make tells))

pub returns-in-None-clause-finds : goal.returns-in-None-clause-finds
returns-in-None-clause-finds g c tells = absent g (goal.at.returns-in-None-clause-finds g c).After-make tells

pub returns-in-None-clause-encoded : goal.returns-in-None-clause-encoded
returns-in-None-clause-encoded g c tells =
    let h = g.H.Host in
    let new = c.make.new.host in
    let kept = (c.in_ok-make-in-None.ensures.made tells).each (h.reads new Left) (h.reads new Right) (g.met.H.Host.read_is_image new Left tells) (g.met.H.Host.read_is_image new Right tells) in
    subst (HasRows (h.reads new Left) (h.reads new Right)) c.in_ok-first.ensures.gives (kept.0, (kept.1.0, kept.1.1), kept.2)

pub returns-in-None-clause-place : goal.returns-in-None-clause-place
returns-in-None-clause-place g c tells =
    let h = g.H.Host in
    let new = c.make.new.host in
    subst (λ (text : List ℕ). HasPlace (h.reads new Left) (h.reads new Right) (length text + 14)) c.in_ok-first.ensures.text (c.in_ok-make-in-None.ensures.place tells)

pub returns-in-None-clause-disk_quiet : goal.returns-in-None-clause-disk_quiet
returns-in-None-clause-disk_quiet g c sound =
    let none_found = none g (goal.at.returns-in-None-clause-disk_quiet g c).After-make in
    c.in_ok-make-in-None.ensures.disk_quiet (λ is. absurd cc) ∙ c.open.ensures.disk_quiet (λ is. absurd cc)

-- ---- it is refused

pub returns-clause-finds : goal.returns-clause-finds
returns-clause-finds g c tells =
    let h = g.H.Host in
    let start = c.args.host.now in
    refused_finds (h.reads start Left) (h.reads start Right) c.open.result c.in-Some.fault (sym c.refusal.ensures ∙ c.in-Some.is) c.open.ensures.found (c.open.ensures.rows tells)
    (c.open.ensures.bad_store tells)

pub returns-clause-made_where : goal.returns-clause-made_where
returns-clause-made_where g c tells = (unmade_judges {T = Unit {0}} (g.H.Host.reads c.args.host.now Left) (g.H.Host.reads c.args.host.now Right) c.in-Some.fault (returns-clause-finds g c tells)).made

pub returns-clause-already_store_where : goal.returns-clause-already_store_where
returns-clause-already_store_where g c tells = (unmade_judges {T = Unit {0}} (g.H.Host.reads c.args.host.now Left) (g.H.Host.reads c.args.host.now Right) c.in-Some.fault (returns-clause-finds g c tells)).already_store

pub returns-clause-bad_store_where : goal.returns-clause-bad_store_where
returns-clause-bad_store_where g c tells = (unmade_judges {T = Unit {0}} (g.H.Host.reads c.args.host.now Left) (g.H.Host.reads c.args.host.now Right) c.in-Some.fault (returns-clause-finds g c tells)).bad_store

pub returns-clause-left_as_read : goal.returns-clause-left_as_read
returns-clause-left_as_read g c tells is =
    let alike = failed_alike c.open.result c.in-Some.fault (sym c.refusal.ensures ∙ c.in-Some.is) in
    c.open.ensures.left tells (λ failed. let disk = alike.0 failed in ⊎_elim (λ already. absurd cc) (λ bad. absurd cc) is)

pub returns-clause-phases : goal.returns-clause-phases
returns-clause-phases g c tells =
    let alike = failed_alike c.open.result c.in-Some.fault (sym c.refusal.ensures ∙ c.in-Some.is) in
    opening_phases g.H.Host (fresh c.args.id c.args.now) c.args.host.now c.open.new.host c.open.result _ (c.open.ensures.phases tells) (λ failed. ap Err (alike.0 failed))

pub returns-clause-only_read : goal.returns-clause-only_read
returns-clause-only_read g c tells there none = c.open.ensures.only_read tells none

pub returns-clause-left : goal.returns-clause-left
returns-clause-left g c tells states all =
    let start = c.args.host.now in
    opening_left g.H.Host start c.open.new.host states (g.met.H.Host.read_is_image start Left tells) (g.met.H.Host.read_is_image start Right tells) all (c.open.ensures.any_moment tells)

pub returns-clause-any_moment : goal.returns-clause-any_moment
returns-clause-any_moment g c tells = below_quiet g.H.Host c.args.host.now c.open.new.host (c.open.ensures.below tells)

pub returns-clause-text : goal.returns-clause-text
returns-clause-text g c tells =
    let new = c.open.new.host in
    text_below g.H.Host c.args.host.now new tells (g.met.H.Host.counts_now new) (g.met.H.Host.read_is_image new) (c.open.ensures.below tells)

pub returns-clause-cause : goal.returns-clause-cause
returns-clause-cause g c is =
    let alike = failed_alike c.open.result c.in-Some.fault (sym c.refusal.ensures ∙ c.in-Some.is) in
    c.open.ensures.cause (alike.1 (make_fault_is c.in-Some.fault DiskFault is))

pub returns-clause-disk_quiet : goal.returns-clause-disk_quiet
returns-clause-disk_quiet g c sound =
    let alike = failed_alike c.open.result c.in-Some.fault (sym c.refusal.ensures ∙ c.in-Some.is) in
    c.open.ensures.disk_quiet (λ failed. sound (ap Err (alike.0 failed)))
