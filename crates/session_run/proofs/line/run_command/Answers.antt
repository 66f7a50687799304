-- The step that is prepared is the command's, and it is committed and answered.
use Rattle.std.proofs.Common.{◌≡◌, List, [], ℕ, ◌∙◌, ap, refl, subst, sym, arith, Result, Err, OnOk}
use Rattle.std.specs.Prelude.{IsErrOf}
use Rattle.client_state.specs.declared.client_state.ClientState.{ClientState}
use Rattle.client_steps.specs.declared.session.Session.{Session}
use Rattle.client_core.specs.Clients.{state_of, session_of, end_of, step_of}
use Rattle.client_store.specs.Places.{place_after}
use Rattle.client_core.specs.Prepared.{next_state}
use Rattle.client_steps.specs.Settings.{setting}
use Rattle.client_core.proofs.Holding.{open_again, gate_again, end_again}
use Rattle.client_words.specs.Answers.{answer_lines}
use Rattle.session_run.specs.declared.faults.RunFault.{RunFault}
use Rattle.session_run.specs.declared.faults.RunFault.TheVariants.{OutOfMemory}
use Rattle.session_run.specs.FaultCauses.{HasShelfCauses, HasHostCauses}
use Rattle.session_run.specs.Lines.{LineRan}
use Rattle.session_run.specs.Statuses.{of_step}
use Rattle.session_run.proofs.Causing.{unfailed_causes, unprepared_causes}
use Rattle.session_run.proofs.Ending.{err_is}
use Rattle.session_run.proofs.Undone.{undone_ran, undone_open, ran_again}
use Rattle.session_run.proofs.Outcomes.{on_ok, both_ok, step_free, unprepared_ends, unanswered_ends}
use Rattle.session_run.proofs.line.run_command.Goals as goal

-- ---- no step is prepared

pub returns-in_err-prepared-clause-ran : goal.returns-in_err-prepared-clause-ran
returns-in_err-prepared-clause-ran g c shelf_tells tells =
    let h = g.H.Host in
    let client = c.args.client.now in
    let start = c.args.host.now in
    let fault = c.in_err-prepared.field-0.0 in
    undone_ran h client start (λ l r u met. g.met.H.Host.only_now start l r u tells met) c.from_residual.result (of_step fault) c.from_residual.ensures.1 (step_free fault (h.written start)) (c.requires.holds tells) _ _
    (λ kept. unprepared_ends h start (state_of client) _ _ kept fault c.from_residual.result c.from_residual.ensures.1)

pub returns-in_err-prepared-clause-somehow : goal.returns-in_err-prepared-clause-somehow
returns-in_err-prepared-clause-somehow g c tells =
    let h = g.H.Host in
    let client = c.args.client.now in
    let start = c.args.host.now in
    let fault = c.in_err-prepared.field-0.0 in (
      state_of client,
      (
        [],
        undone_ran h client start (λ l r u met. g.met.H.Host.only_now start l r u tells met) c.from_residual.result (of_step fault) c.from_residual.ensures.1 (step_free fault (h.written start)) (c.requires.holds tells) (state_of client) []
            (λ kept. unprepared_ends h start (state_of client) _ _ kept fault c.from_residual.result c.from_residual.ensures.1),
      ),
    )

pub returns-in_err-prepared-clause-shelf_causes : goal.returns-in_err-prepared-clause-shelf_causes
returns-in_err-prepared-clause-shelf_causes g c =
    let f = g.F.Shelf in
    let fault = c.in_err-prepared.field-0.0 in
    let failed = c.in_err-prepared.ensures in
    subst (λ (r : Result (Unit {0}) RunFault). HasShelfCauses f (IsErrOf r) c.args.shelf.now c.prepare.new.shelf) (sym (err_is c.from_residual.result (of_step fault) c.from_residual.ensures.1))
    (unprepared_causes f fault c.args.shelf.now c.prepare.new.shelf failed.cause failed.quiet failed.faults failed.files)

pub returns-in_err-prepared-clause-stays_open : goal.returns-in_err-prepared-clause-stays_open
returns-in_err-prepared-clause-stays_open g c tells =
    let start = c.args.host.now in
    undone_open g.H.Host c.args.client.now start (λ l r u met. g.met.H.Host.only_now start l r u tells met) c.from_residual.result (of_step c.in_err-prepared.field-0.0) c.from_residual.ensures.1 c.prepare.new.self

-- ---- or no answer is built

pub returns-in_err-text-clause-ran : goal.returns-in_err-text-clause-ran
returns-in_err-text-clause-ran g c shelf_tells tells =
    let h = g.H.Host in
    let client = c.args.client.now in
    let start = c.args.host.now in
    let result = c.from_residual-in_err-text.result in
    let and = c.from_residual-in_err-text.ensures.1 in
    undone_ran h client start (λ l r u met. g.met.H.Host.only_now start l r u tells met) result OutOfMemory and (λ after. refl) (c.requires.holds tells) _ _ (λ kept. unanswered_ends h start (state_of client) _ _ kept result and)

pub returns-in_err-text-clause-somehow : goal.returns-in_err-text-clause-somehow
returns-in_err-text-clause-somehow g c tells =
    let h = g.H.Host in
    let client = c.args.client.now in
    let start = c.args.host.now in
    let result = c.from_residual-in_err-text.result in
    let and = c.from_residual-in_err-text.ensures.1 in (
      state_of client,
      ([], undone_ran h client start (λ l r u met. g.met.H.Host.only_now start l r u tells met) result OutOfMemory and (λ after. refl) (c.requires.holds tells) (state_of client) [] (λ kept. unanswered_ends h start (state_of client) _ _ kept result and)),
    )

pub returns-in_err-text-clause-shelf_causes : goal.returns-in_err-text-clause-shelf_causes
returns-in_err-text-clause-shelf_causes g c =
    let f = g.F.Shelf in
    let new = c.prepare.new.shelf in
    let done = c.in_ok-prepared.ensures in
    subst (λ (r : Result (Unit {0}) RunFault). HasShelfCauses f (IsErrOf r) c.args.shelf.now new) (sym (err_is c.from_residual-in_err-text.result OutOfMemory c.from_residual-in_err-text.ensures.1))
    (unfailed_causes f (IsErrOf {T = Unit {0}} (Err OutOfMemory)) c.args.shelf.now new (λ is. absurd cc) (done.quiet (λ is. absurd cc)) done.files)

pub returns-in_err-text-clause-host_causes : goal.returns-in_err-text-clause-host_causes
returns-in_err-text-clause-host_causes g c =
    let h = g.H.Host in
    let start = c.args.host.now in
    subst (λ (r : Result (Unit {0}) RunFault). HasHostCauses h (IsErrOf r) start start) (sym (err_is c.from_residual-in_err-text.result OutOfMemory c.from_residual-in_err-text.ensures.1)) (record {
      disk = λ is. absurd cc;
      say = λ is. absurd cc;
      disk_quiet = λ other. refl;
      say_quiet = λ other. refl;
      disk_later = omega arith;
      say_later = omega arith;
    })

pub returns-in_err-text-clause-stays_open : goal.returns-in_err-text-clause-stays_open
returns-in_err-text-clause-stays_open g c tells =
    let start = c.args.host.now in
    undone_open g.H.Host c.args.client.now start (λ l r u met. g.met.H.Host.only_now start l r u tells met) c.from_residual-in_err-text.result OutOfMemory c.from_residual-in_err-text.ensures.1 c.prepare.new.self

-- ---- it is committed on the client that the preparing left

pub commit-requires-clause-holds : goal.commit-requires-clause-holds
commit-requires-clause-holds g c tells = open_again c.args.client.now c.prepare.new.self c.in_ok-prepared.ensures.same g.H.Host c.args.host.now (c.requires.holds tells)

pub returns-clause-ran : goal.returns-clause-ran
returns-clause-ran g c shelf_tells tells =
    let h = g.H.Host in
    let start = c.args.host.now in
    let new = c.commit.new.host in
    let old = c.args.client.now in
    let fresh = c.prepare.new.self in
    let leads = c.in_ok-prepared.ensures.step (λ names. shelf_tells) in
    let to = step_of old (setting g.F.Shelf c.args.shelf.now c.args.now) c.args.command.now in
    let words : c.as_str.result.now ≡ answer_lines to.answer = c.as_str.ensures.text ∙ c.in_ok-text.ensures ∙ ap answer_lines (c.answer.ensures ∙ leads.answer) in
    subst (λ (text : List ℕ). LineRan h old to.state text start new c.commit.result) words
    (subst (λ (t : ClientState). LineRan h old t c.as_str.result.now start new c.commit.result) leads.state
    (ran_again h old fresh c.in_ok-prepared.ensures.same (next_state fresh c.in_ok-prepared.prepared) c.as_str.result.now start new c.commit.result (c.commit.ensures.ran tells)))

pub returns-clause-shelf_causes : goal.returns-clause-shelf_causes
returns-clause-shelf_causes g c =
    let done = c.in_ok-prepared.ensures in
    unfailed_causes g.F.Shelf (IsErrOf c.commit.result) c.args.shelf.now c.prepare.new.shelf c.commit.ensures.only.0 (done.quiet (λ is. absurd cc)) done.files

pub returns-clause-somehow : goal.returns-clause-somehow
returns-clause-somehow g c tells =
    let fresh = c.prepare.new.self in
    let next = next_state fresh c.in_ok-prepared.prepared in (
      next,
      (c.as_str.result.now, ran_again g.H.Host c.args.client.now fresh c.in_ok-prepared.ensures.same next c.as_str.result.now c.args.host.now c.commit.new.host c.commit.result (c.commit.ensures.ran tells)),
    )

pub returns-clause-stays_open : goal.returns-clause-stays_open
returns-clause-stays_open g c tells =
    let same = c.in_ok-prepared.ensures.same in
    let opened = c.commit.ensures.stays_open tells in
    record {
      holds = opened.holds;
      gate = on_ok c.commit.result opened.gate (λ kept gate. kept (gate_again c.args.client.now c.prepare.new.self same g.H.Host c.args.host.now gate));
      gate_made = on_ok c.commit.result opened.gate_made (λ made changed. made (λ stays. changed (sym same.stored.state ∙ stays)));
      below = opened.below;
    }

pub returns-clause-state : goal.returns-clause-state
returns-clause-state g c shelf_tells =
    subst (λ (s : ClientState). OnOk c.commit.result (state_of c.commit.new.client ≡ s)) (c.in_ok-prepared.ensures.step (λ names. shelf_tells)).state c.commit.ensures.state

pub returns-clause-session : goal.returns-clause-session
returns-clause-session g c shelf_tells =
    subst (λ (s : Session). OnOk c.commit.result (session_of c.commit.new.client ≡ s)) (c.in_ok-prepared.ensures.step (λ names. shelf_tells)).session c.commit.ensures.session

pub returns-clause-place : goal.returns-clause-place
returns-clause-place g c =
    let old = c.args.client.now in
    let fresh = c.prepare.new.self in
    let same = c.in_ok-prepared.ensures.same in
    both_ok c.commit.result c.commit.ensures.place c.commit.ensures.state (λ place is.
    place ∙ ap (λ (p : ℕ). place_after p (state_of fresh) (next_state fresh c.in_ok-prepared.prepared)) (end_again old fresh same)
    ∙ ap (λ (s : ClientState). place_after (end_of old) s (next_state fresh c.in_ok-prepared.prepared)) same.stored.state ∙ ap (λ (s : ClientState). place_after (end_of old) (state_of old) s) (sym is))
