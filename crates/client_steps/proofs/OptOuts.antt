-- A slug that is opted out stays so, until its user brings it back.
use Rattle.std.proofs.Common.{Ordering, ◌≡◌, ℕ, Bool, true, false, List, [], ◌∷◌, length, Option, Some, None, Less, Equal, Greater, ◌||◌, refl, sym, ap, ◌∙◌, subst}
use Rattle.std.specs.Prelude.{not, nat_lt, bytes_eq, if◌then◌else◌}
use Rattle.std.specs.BTreeSet.{insert_key}
use Rattle.std.specs.Cmp.Lexicographic.{bytes_decides}
use Rattle.std.specs.Ordering.{match_ordering}
use Rattle.json_tree.specs.declared.tree.Tree.{Tree}
use Rattle.recipe_reader.specs.Payloads.{slug_cmp}
use Rattle.enrol_states.specs.Choices.{has_no_room}
use Rattle.event_counts.specs.declared.name_counts.NameCounts.{NameCounts}
use Rattle.client_state.specs.declared.client_state.ClientState.{ClientState}
use Rattle.enrol_states.specs.Commands.{after_opt_out, after_opt_in, after_reset, without_text}
use Rattle.enrol_states.specs.Order.{is_in}
use Rattle.enrol_states.proofs.OptOuts.{is_in-insert}
use Rattle.enrol_states.proofs.Ordered.{same_texts}
use Rattle.client_state.specs.Sound.{max_size}
use Rattle.client_state.specs.Encoding.{encoding}
use Rattle.enrol_evolver.specs.Evolution.{evolution}
use Rattle.app_context.specs.declared.context.Context.{Context}
use Rattle.fml_types.specs.declared.manifest.Manifest.{Manifest}
use Rattle.client_words.specs.declared.answer.Answer.TheVariants.{Okay}
use Rattle.client_words.specs.declared.refusal.Refusal.TheVariants.{OptedOutLimit, StateTooLarge}
use Rattle.client_words.specs.declared.command.Command.{Command}
use Rattle.client_words.specs.declared.command.Command.TheVariants.{Fetch, Apply, Participate, OptOut, OptIn, Reset, Event, Confirm, SetPreference, ClearPreference}
use Rattle.client_steps.specs.declared.session.Session.{Session}
use Rattle.client_steps.specs.Fetching.{file_tree}
use Rattle.client_steps.specs.OptOuts.{BringsBack, OptOutsHold}
use Rattle.client_steps.specs.Settings.{Setting}
use Rattle.client_steps.specs.Steps.{EnrolmentOutcome, Outcome, Accepted, Refused, Step, with_enrolment, whole, enrolling, seeing, counting, confirming, preferring, participation, opting_out, fetching, applying, applied, outcome, done, step, unchanged}
use Rattle.client_steps.proofs.EnrolmentOutcomes.{fetching_either, applying_either, opting_out_either, opting_in_either}
use Rattle.client_steps.proofs.Outcomes.{either_step, leaving_either, counting_either, confirming_either}
use Rattle.client_steps.proofs.Stepping.{whole_either, preferring_either}

-- ---- one slug more or less

inserted_at : (s t : List ℕ) (ts : List (List ℕ)) (o : Ordering) → slug_cmp s t ≡ o → is_in (insert_key slug_cmp ts s) s ≡ true → is_in (match_ordering o (s ∷ t ∷ ts) (t ∷ ts) (t ∷ insert_key slug_cmp ts s)) s ≡ true
inserted_at s t ts Less e rest = ap (λ b. b || is_in (t ∷ ts) s) ((bytes_decides s s).1 refl)
inserted_at s t ts Equal e rest = ap (λ b. b || is_in ts s) ((bytes_decides t s).1 (sym (same_texts s t e)))
inserted_at s t ts Greater e rest = or_right (bytes_eq t s) (is_in (insert_key slug_cmp ts s) s) rest
  where
    or_right : (a b : Bool) → b ≡ true → (a || b) ≡ true
    or_right true b h = refl
    or_right false b h = h

is_in-inserted : (s : List ℕ) (ts : List (List ℕ)) → is_in (insert_key slug_cmp ts s) s ≡ true
is_in-inserted s [] = ap (λ b. b || false) ((bytes_decides s s).1 refl)
is_in-inserted s (t ∷ ts) = inserted_at s t ts (slug_cmp s t) refl (is_in-inserted s ts)

kept_at : (s u : List ℕ) (ts : List (List ℕ)) (b : Bool) → bytes_eq s u ≡ b → is_in ts u ≡ true → is_in (insert_key slug_cmp ts s) u ≡ true
kept_at s u ts true e there = subst (λ v. is_in (insert_key slug_cmp ts s) v ≡ true) ((bytes_decides s u).0 e) (is_in-inserted s ts)
kept_at s u ts false e there = is_in-insert s u ts e ∙ there

kept-insert : (s u : List ℕ) (ts : List (List ℕ)) → is_in ts u ≡ true → is_in (insert_key slug_cmp ts s) u ≡ true
kept-insert s u ts there = kept_at s u ts (bytes_eq s u) refl there

first_kept : (t s u : List ℕ) (ts : List (List ℕ)) (b : Bool) → bytes_eq t s ≡ b → bytes_eq s u ≡ false → (is_in ts u ≡ true → is_in (without_text s ts) u ≡ true) → is_in (t ∷ ts) u ≡ true → is_in (if not b then t ∷ without_text s ts else without_text s ts) u ≡ true
first_kept t s u ts true e other rest there = rest (sym (ap (λ c. c || is_in ts u) (ap (λ v. bytes_eq v u) ((bytes_decides t s).0 e) ∙ other)) ∙ there)
first_kept t s u ts false e other rest there = either (bytes_eq t u) (is_in ts u) (is_in (without_text s ts) u) there rest
  where
    either : (a b c : Bool) → (a || b) ≡ true → (b ≡ true → c ≡ true) → (a || c) ≡ true
    either true b c h f = refl
    either false b c h f = f h

kept-without : (s u : List ℕ) (ts : List (List ℕ)) → bytes_eq s u ≡ false → is_in ts u ≡ true → is_in (without_text s ts) u ≡ true
kept-without s u [] other there = there
kept-without s u (t ∷ ts) other there = first_kept t s u ts (bytes_eq t s) refl other (kept-without s u ts other) there

-- ---- what is done

module _ (at : Setting) (s : ClientState) (session : Session) (slug : List ℕ) (there : is_in s.enrolment.opted_out slug ≡ true) where
  -- an accepted state has the slug
  abbrev Keeps : Outcome → Type 0
  Keeps (Accepted t next answer) = is_in t.enrolment.opted_out slug ≡ true
  Keeps (Refused refusal) = Unit {0}

  -- and so has an accepted enrolment
  abbrev KeepsEnrolment : EnrolmentOutcome → Type 0
  KeepsEnrolment (Accepted e next answer) = is_in e.opted_out slug ≡ true
  KeepsEnrolment (Refused refusal) = Unit {0}

  whole-keeps : (counts : List NameCounts) (asked : EnrolmentOutcome) → KeepsEnrolment asked → Keeps (whole s session counts asked)
  whole-keeps counts (Accepted e next answer) keeps = whole_either Keeps s session counts e next answer tt (λ fits. keeps)
  whole-keeps counts (Refused refusal) keeps = tt

  done-keeps : (asked : Outcome) → Keeps asked → is_in (done s session asked).state.enrolment.opted_out slug ≡ true
  done-keeps (Accepted t next answer) keeps = either_step (λ to. is_in to.state.enrolment.opted_out slug ≡ true) (nat_lt max_size (length (encoding t))) _ _ there keeps
  done-keeps (Refused refusal) keeps = there

  applied-keeps : (manifest : Manifest) (context : Context) → is_in (applied at.now s.enrolment manifest context).opted_out slug ≡ true
  unfolding evolution
  applied-keeps manifest context = there

  preferring-keeps : (name : List ℕ) (value : Option Tree) → Keeps (preferring s session name value)
  preferring-keeps name value = preferring_either Keeps s session name value tt (λ free. there) (λ holder held fits. there)

  -- what is asked of the enrolment, and done, keeps it
  enrolment-keeps : (asked : EnrolmentOutcome) → KeepsEnrolment asked → is_in (done s session (enrolling s session asked)).state.enrolment.opted_out slug ≡ true
  enrolment-keeps asked keeps = done-keeps (enrolling s session asked) (whole-keeps s.events asked keeps)

  -- it is kept where the command isn't done
  abbrev KeepsUnless : Bool → Outcome → Type 0
  KeepsUnless back asked = (back ≡ true → (done s session asked).answer ≡ Okay → ⊥) → is_in (done s session asked).state.enrolment.opted_out slug ≡ true

  unless_at : (t : ClientState) (next : Session) (back large : Bool) → (back ≡ false → is_in t.enrolment.opted_out slug ≡ true)
      → let to : Step = if large then unchanged s session (StateTooLarge (length (encoding t))) else record { state = t; session = next; answer = Okay } in
      (back ≡ true → to.answer ≡ Okay → ⊥) → is_in to.state.enrolment.opted_out slug ≡ true
  unless_at t next back true keeps never = there
  unless_at t next true false keeps never = absurd (never refl refl)
  unless_at t next false false keeps never = keeps refl

  accepted-unless : (t : ClientState) (next : Session) (back : Bool) → (back ≡ false → is_in t.enrolment.opted_out slug ≡ true) → KeepsUnless back (Accepted t next Okay)
  accepted-unless t next back keeps = unless_at t next back (nat_lt max_size (length (encoding t))) keeps

  taken-unless : (other branch : List ℕ) → KeepsUnless (bytes_eq other slug) (enrolling s session (Accepted (after_opt_in s.enrolment other branch) session Okay))
  taken-unless other branch =
      let e = after_opt_in s.enrolment other branch in
      whole_either (KeepsUnless (bytes_eq other slug)) s session s.events e session Okay (λ never. there)
      (λ fits. accepted-unless (with_enrolment session s e s.events) session (bytes_eq other slug) (λ apart. kept-without other slug s.enrolment.opted_out apart there))

  kept : (command : Command) → (BringsBack at s session slug command → ⊥) → is_in (step at s session command).state.enrolment.opted_out slug ≡ true
  unfolding step
  kept (Fetch file) never = enrolment-keeps (fetching s.enrolment session (file_tree file (at.files file))) (fetching_either s.enrolment session KeepsEnrolment (λ refusal. tt) (file_tree file (at.files file)) (λ tree found is loads. there))
  kept Apply never = enrolment-keeps (applying at.now s.enrolment session session.manifest (seeing at.now s.events session.context)) (applying_either s.enrolment session KeepsEnrolment (λ refusal. tt) at.now session.manifest (seeing at.now s.events session.context) applied-keeps)
  kept (Participate kinds on) never = enrolment-keeps (participation s.enrolment session kinds on) there
  kept (OptOut other) never = enrolment-keeps (opting_out s.enrolment session other) (opting_out_either s.enrolment session KeepsEnrolment (λ refusal. tt) other (kept-insert other slug s.enrolment.opted_out there))
  kept (OptIn other branch) never =
      opting_in_either s.enrolment session (λ (asked : EnrolmentOutcome). KeepsUnless (bytes_eq other slug) (enrolling s session asked)) (λ refusal never. there) other branch (taken-unless other branch) (λ back is_done. never (back, is_done))
  kept (Reset id) never =
      let e = after_reset s.enrolment id in
      whole_either (KeepsUnless true) s session [] e session Okay (λ apart. there) (λ fits. accepted-unless (with_enrolment session s e []) session true (λ apart. absurd cc)) (λ back is_done. never (back, is_done))
  kept (SetPreference name value) never = done-keeps (preferring s session name (Some value)) (preferring-keeps name (Some value))
  kept (ClearPreference name) never = done-keeps (preferring s session name None) (preferring-keeps name None)
  kept (Event name count) never = done-keeps (counting at.now s session name count) (counting_either at s session Keeps (λ refusal. tt) name count (λ room. there))
  kept (Confirm number) never = done-keeps (confirming s session number) (confirming_either at s session Keeps (λ refusal. tt) number (λ known. there))
  kept command never = done-keeps (outcome at s session command) (leaving_either at s session Keeps (λ refusal. tt) (λ next answer. there) command tt)

-- ---- an opt-out

taken_at : (s t : ClientState) (session next : Session) (slug : List ℕ) (large : Bool) → is_in t.enrolment.opted_out slug ≡ true
    → let to : Step = if large then unchanged s session (StateTooLarge (length (encoding t))) else record { state = t; session = next; answer = Okay } in
    to.answer ≡ Okay → is_in to.state.enrolment.opted_out slug ≡ true
taken_at s t session next slug true has is_done = absurd cc
taken_at s t session next slug false has is_done = has

-- the state with the slug opted out
abbrev out_of : Session → ClientState → List ℕ → ClientState
out_of session s slug = with_enrolment session s (after_opt_out s.enrolment slug) s.events

room_at : (s : ClientState) (session : Session) (slug : List ℕ) (full : Bool) → (done s session (enrolling s session (if full then Refused OptedOutLimit else Accepted (after_opt_out s.enrolment slug) session Okay))).answer ≡ Okay
    → is_in (done s session (enrolling s session (if full then Refused OptedOutLimit else Accepted (after_opt_out s.enrolment slug) session Okay))).state.enrolment.opted_out slug ≡ true
room_at s session slug true is_done = absurd cc
room_at s session slug false is_done =
    whole_either (λ asked. (done s session asked).answer ≡ Okay → is_in (done s session asked).state.enrolment.opted_out slug ≡ true) s session s.events (after_opt_out s.enrolment slug) session Okay (λ okay. absurd cc)
    (λ fits. taken_at s (out_of session s slug) session session slug (nat_lt max_size (length (encoding (out_of session s slug)))) (is_in-inserted slug s.enrolment.opted_out)) is_done

taken : (at : Setting) (s : ClientState) (session : Session) (slug : List ℕ) → (step at s session (OptOut slug)).answer ≡ Okay → is_in (step at s session (OptOut slug)).state.enrolment.opted_out slug ≡ true
unfolding step
taken at s session slug is_done = room_at s session slug (has_no_room s.enrolment.opted_out slug) is_done

pub opt_outs_hold : OptOutsHold
opt_outs_hold = record { taken = taken; kept = λ at s session slug command there never. kept at s session slug there command never }
