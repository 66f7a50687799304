-- A step keeps the records of a state's recipes sound.
use Rattle.std.proofs.Common.{ℕ, List, [], length, Option, Some, None, Result, unwrap_or, subst}
use Rattle.std.specs.Prelude.{IfOk, nat_lt}
use Rattle.json_tree.specs.Json.{Json, IsSound}
use Rattle.json_tree.specs.declared.tree.Tree.{Tree}
use Rattle.recipe_reader.specs.declared.recipe.Recipe.{Recipe}
use Rattle.app_context.specs.declared.context.Context.{Context}
use Rattle.enrol_evolver.specs.Evolution.{evolution}
use Rattle.state_codec.specs.Encoding.{pending_recipes}
use Rattle.event_counts.specs.declared.name_counts.NameCounts.{NameCounts}
use Rattle.client_state.specs.declared.client_state.ClientState.{ClientState}
use Rattle.client_state.specs.Sound.{max_size, AreRecords, HaveRecords}
use Rattle.client_state.specs.Encoding.{encoding}
use Rattle.fml_types.specs.declared.manifest.Manifest.{Manifest}
use Rattle.client_words.specs.declared.refusal.Refusal.{Refusal}
use Rattle.client_words.specs.declared.command.Command.{Command}
use Rattle.client_words.specs.declared.command.Command.TheVariants.{Fetch, Apply, Participate, OptOut, OptIn, Reset, Event, Confirm, SetPreference, ClearPreference}
use Rattle.client_steps.specs.declared.session.Session.{Session}
use Rattle.client_steps.specs.Fetching.{file_tree}
use Rattle.client_steps.specs.Settings.{Setting}
use Rattle.client_steps.specs.Steps.{EnrolmentOutcome, Outcome, Accepted, Refused, whole, seeing, preferring, participation, resetting, opting_out, opting_in, fetching, applying, applied, outcome, done, step}
use Rattle.client_steps.proofs.ReadFiles.{file_sound}
use Rattle.client_steps.proofs.ReadRecords.{OfPayload, payload_records}
use Rattle.client_steps.proofs.EnrolmentOutcomes.{fetching_either, applying_either, opting_out_either, opting_in_either}
use Rattle.client_steps.proofs.Outcomes.{either_step, leaving_either, counting_either, confirming_either}
use Rattle.client_steps.proofs.Stepping.{whole_either, preferring_either}

live_records : (pending : Option (List Recipe)) (live : List Recipe) → AreRecords (pending_recipes pending) → AreRecords live → AreRecords (unwrap_or pending live)
live_records None live fetched_ones kept_ones = kept_ones
live_records (Some recipes) live fetched_ones kept_ones = fetched_ones

module _ (at : Setting) (s : ClientState) (session : Session) (h : HaveRecords s.enrolment) where
  -- an accepted state has sound records
  abbrev Keeps : Outcome → Type 0
  Keeps (Accepted t next answer) = HaveRecords t.enrolment
  Keeps (Refused refusal) = Unit {0}

  -- and so has an accepted enrolment
  abbrev KeepsEnrolment : EnrolmentOutcome → Type 0
  KeepsEnrolment (Accepted e next answer) = HaveRecords e
  KeepsEnrolment (Refused refusal) = Unit {0}

  whole-keeps : (counts : List NameCounts) (asked : EnrolmentOutcome) → KeepsEnrolment asked → Keeps (whole s session counts asked)
  whole-keeps counts (Accepted e next answer) keeps = whole_either Keeps s session counts e next answer tt (λ fits. keeps)
  whole-keeps counts (Refused refusal) keeps = tt

  done-keeps : (asked : Outcome) → Keeps asked → HaveRecords (done s session asked).state.enrolment
  done-keeps (Accepted t next answer) keeps = either_step (λ to. HaveRecords to.state.enrolment) (nat_lt max_size (length (encoding t))) _ _ h keeps
  done-keeps (Refused refusal) keeps = h

  preferring-keeps : (name : List ℕ) (value : Option Tree) → Keeps (preferring s session name value)
  preferring-keeps name value = preferring_either Keeps s session name value tt (λ free. h) (λ holder held fits. record { live = h.live; pending = h.pending })

  fetch-keeps : (read : Result Json Refusal) → IfOk read IsSound → KeepsEnrolment (fetching s.enrolment session read)
  fetch-keeps read sound =
      fetching_either s.enrolment session KeepsEnrolment (λ refusal. tt) read
      (λ tree found is loads. record { live = h.live; pending = subst OfPayload loads (payload_records tree (subst (λ (r : Result Json Refusal). IfOk r IsSound) is sound)) })

  applied-keeps : (manifest : Manifest) (context : Context) → HaveRecords (applied at.now s.enrolment manifest context)
  unfolding evolution
  applied-keeps manifest context = record { live = live_records s.enrolment.pending s.enrolment.live h.pending h.live; pending = tt }

  outcome-keeps : (command : Command) → Keeps (outcome at s session command)
  outcome-keeps (Fetch file) = whole-keeps s.events (fetching s.enrolment session (file_tree file (at.files file))) (fetch-keeps (file_tree file (at.files file)) (file_sound file (at.files file)))
  outcome-keeps Apply = whole-keeps s.events (applying at.now s.enrolment session session.manifest (seeing at.now s.events session.context)) (applying_either s.enrolment session KeepsEnrolment (λ refusal. tt) at.now session.manifest (seeing at.now s.events session.context) applied-keeps)
  outcome-keeps (Participate kinds on) = whole-keeps s.events (participation s.enrolment session kinds on) (record { live = h.live; pending = h.pending })
  outcome-keeps (OptOut slug) = whole-keeps s.events (opting_out s.enrolment session slug) (opting_out_either s.enrolment session KeepsEnrolment (λ refusal. tt) slug (record { live = h.live; pending = h.pending }))
  outcome-keeps (OptIn slug branch) = whole-keeps s.events (opting_in s.enrolment session slug branch) (opting_in_either s.enrolment session KeepsEnrolment (λ refusal. tt) slug branch (record { live = h.live; pending = h.pending }))
  outcome-keeps (Reset id) = whole-keeps [] (resetting s.enrolment session id) (record { live = h.live; pending = h.pending })
  outcome-keeps (SetPreference name value) = preferring-keeps name (Some value)
  outcome-keeps (ClearPreference name) = preferring-keeps name None
  outcome-keeps (Event name count) = counting_either at s session Keeps (λ refusal. tt) name count (λ room. h)
  outcome-keeps (Confirm number) = confirming_either at s session Keeps (λ refusal. tt) number (λ known. h)
  outcome-keeps command = leaving_either at s session Keeps (λ refusal. tt) (λ next answer. h) command tt

  pub step_keeps_records : (command : Command) → HaveRecords (step at s session command).state.enrolment
  unfolding step
  step_keeps_records command = done-keeps (outcome at s session command) (outcome-keeps command)
