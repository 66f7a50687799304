-- A line with a command does it, and one without is answered alone.
use Rattle.std.proofs.Common.{◌≢◌, List, [], ℕ, ◌∙◌, refl, subst, rules, Err}
use Rattle.client_core.specs.Clients.{state_of, end_of, step_of}
use Rattle.client_steps.specs.Settings.{setting}
use Rattle.client_store.proofs.Placing.{place_same}
use Rattle.client_words.specs.declared.line.LineFault.TheVariants.{OutOfMemory}
use Rattle.client_words.specs.Answers.{fault_answer}
use Rattle.client_words.specs.Commands.{command_of}
use Rattle.session_run.specs.declared.faults.RunFault.TheVariants as run
use Rattle.session_run.specs.Lines.{LineRan}
use Rattle.session_run.specs.Steps.{RunState, run_of, answer}
use Rattle.session_run.proofs.Asking.{line_unasked, line_asked}
use Rattle.session_run.proofs.Undone.{undone_ran, undone_open}
use Rattle.session_run.proofs.Outcomes.{always_ok, both_ok, run_same, read_ok, read_err, after-command, answer-command, after-fault, answer-fault}
use Rattle.session_run.proofs.line.run_line.Goals as goal

-- ---- a command

pub returns-in-Ok-clause-ran : goal.returns-in-Ok-clause-ran
returns-in-Ok-clause-ran g c shelf_tells tells =
    let h = g.H.Host in
    let at = setting g.F.Shelf c.args.shelf.now c.args.now in
    let client = c.args.client.now in
    let line = c.args.line.now in
    let is = read_ok c.in-Ok.command (command_of line) c.in-Ok.ensures.value in
    subst (λ (run : RunState). LineRan h client run.state (answer at (run_of client) line) c.args.host.now c.run_command.new.host c.run_command.result) (after-command at (run_of client) line c.in-Ok.command is)
    (subst (λ (text : List ℕ). LineRan h client (step_of client at c.in-Ok.command).state text c.args.host.now c.run_command.new.host c.run_command.result) (answer-command at (run_of client) line c.in-Ok.command is) (c.run_command.ensures.ran shelf_tells tells))

pub returns-in-Ok-clause-somehow : goal.returns-in-Ok-clause-somehow
returns-in-Ok-clause-somehow g c = c.run_command.ensures.somehow

pub returns-in-Ok-clause-stays_open : goal.returns-in-Ok-clause-stays_open
returns-in-Ok-clause-stays_open g c = c.run_command.ensures.stays_open

pub returns-in-Ok-clause-state : goal.returns-in-Ok-clause-state
returns-in-Ok-clause-state g c shelf_tells =
    let at = setting g.F.Shelf c.args.shelf.now c.args.now in
    let client = c.args.client.now in
    let line = c.args.line.now in
    let is = read_ok c.in-Ok.command (command_of line) c.in-Ok.ensures.value in
    both_ok c.run_command.result (c.run_command.ensures.state shelf_tells) (c.run_command.ensures.session shelf_tells)
    (λ state session. run_same (run_of c.run_command.new.client) _ state session ∙ after-command at (run_of client) line c.in-Ok.command is)

pub returns-in-Ok-clause-named : goal.returns-in-Ok-clause-named
returns-in-Ok-clause-named g c is = record { command = c.in-Ok.command; is_command = read_ok c.in-Ok.command (command_of c.args.line.now) c.in-Ok.ensures.value; names = c.run_command.ensures.named is }

pub returns-in-Ok-clause-asked : goal.returns-in-Ok-clause-asked
returns-in-Ok-clause-asked g c =
    let line = c.args.line.now in
    line_asked g.F.Shelf line c.in-Ok.command c.args.shelf.now c.run_command.new.shelf (read_ok c.in-Ok.command (command_of line) c.in-Ok.ensures.value) c.run_command.ensures.asked

-- ---- no command

pub returns-in-Err-clause-asked : goal.returns-in-Err-clause-asked
returns-in-Err-clause-asked g c = line_unasked g.F.Shelf c.args.line.now c.args.shelf.now

pub returns-in-Err-clause-ran : goal.returns-in-Err-clause-ran
returns-in-Err-clause-ran g c shelf_tells tells =
    let h = g.H.Host in
    let at = setting g.F.Shelf c.args.shelf.now c.args.now in
    let client = c.args.client.now in
    let line = c.args.line.now in
    let other : c.in-Err.fault ≢ OutOfMemory = search rules in
    let is = read_err c.in-Err.fault (command_of line) c.in-Err.ensures.value other in
    subst (λ (run : RunState). LineRan h client run.state (answer at (run_of client) line) c.args.host.now c.refuse.new.host c.refuse.result) (after-fault at (run_of client) line c.in-Err.fault is)
    (subst (λ (text : List ℕ). LineRan h client (state_of client) text c.args.host.now c.refuse.new.host c.refuse.result) (answer-fault at (run_of client) line c.in-Err.fault is) (c.refuse.ensures.ran tells))

pub returns-in-Err-clause-somehow : goal.returns-in-Err-clause-somehow
returns-in-Err-clause-somehow g c tells = (state_of c.args.client.now, (fault_answer c.in-Err.fault, c.refuse.ensures.ran tells))

pub returns-in-Err-clause-stays_open : goal.returns-in-Err-clause-stays_open
returns-in-Err-clause-stays_open g c = c.refuse.ensures.stays_open

pub returns-in-Err-clause-state : goal.returns-in-Err-clause-state
returns-in-Err-clause-state g c shelf_tells =
    let line = c.args.line.now in
    let other : c.in-Err.fault ≢ OutOfMemory = search rules in
    let is = read_err c.in-Err.fault (command_of line) c.in-Err.ensures.value other in
    always_ok c.refuse.result (after-fault (setting g.F.Shelf c.args.shelf.now c.args.now) (run_of c.args.client.now) line c.in-Err.fault is)

pub returns-in-Err-clause-place : goal.returns-in-Err-clause-place
returns-in-Err-clause-place g c = always_ok c.refuse.result (place_same (end_of c.args.client.now) (state_of c.args.client.now))

-- ---- no memory for the command

pub returns-in-Err-OutOfMemory-clause-ran : goal.returns-in-Err-OutOfMemory-clause-ran
returns-in-Err-OutOfMemory-clause-ran g c shelf_tells tells =
    let start = c.args.host.now in
    undone_ran g.H.Host c.args.client.now start (λ l r u met. g.met.H.Host.only_now start l r u tells met) (Err run.OutOfMemory) run.OutOfMemory refl (λ after. refl) (c.requires.holds tells) _ _ (λ kept. (kept, refl))

pub returns-in-Err-OutOfMemory-clause-somehow : goal.returns-in-Err-OutOfMemory-clause-somehow
returns-in-Err-OutOfMemory-clause-somehow g c tells =
    let client = c.args.client.now in
    let start = c.args.host.now in (
      state_of client,
      ([], undone_ran g.H.Host client start (λ l r u met. g.met.H.Host.only_now start l r u tells met) (Err run.OutOfMemory) run.OutOfMemory refl (λ after. refl) (c.requires.holds tells) (state_of client) [] (λ kept. (kept, refl))),
    )

pub returns-in-Err-OutOfMemory-clause-stays_open : goal.returns-in-Err-OutOfMemory-clause-stays_open
returns-in-Err-OutOfMemory-clause-stays_open g c tells =
    let start = c.args.host.now in
    undone_open g.H.Host c.args.client.now start (λ l r u met. g.met.H.Host.only_now start l r u tells met) (Err run.OutOfMemory) run.OutOfMemory refl c.args.client.now

pub returns-in-Err-OutOfMemory-clause-asked : goal.returns-in-Err-OutOfMemory-clause-asked
returns-in-Err-OutOfMemory-clause-asked g c = line_unasked g.F.Shelf c.args.line.now c.args.shelf.now
