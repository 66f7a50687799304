-- The outbox, command by command, line by line and run by run.
use Rattle.std.proofs.Common.{◌≡◌, ◌⊎◌, ◌+◌, ◌<◌, ℕ, Bool, true, false, List, [], ◌∷◌, ◌++◌, length, take, inl, inr, refl, sym, ◌∙◌, ap, ap₂, subst, arith, append_assoc, Option, Some, None, Result, Ok, Err}
use Rattle.std.specs.Prelude.{max, nat_le, if◌then◌else◌}
use Rattle.std.specs.Cmp.Lexicographic.{bytes_decides}
use Rattle.std.specs.List.{flat_map}
use Rattle.std.proofs.lemmas.Bool.{leb-false}
use Rattle.std.proofs.lemmas.List.{append-nil}
use Rattle.enrol_states.specs.declared.state.Row.{Row}
use Rattle.change_outbox.specs.Changes.{all_slugs, branch_of, changes_between, join, leave, slug_changes}
use Rattle.change_outbox.specs.Contents.{Contents, above, appended, confirmed, no_changes, numbered}
use Rattle.change_outbox.specs.Laws as outboxes
use Rattle.change_outbox.specs.Laws.{Action, Append, Confirm, AreAccepted, all_appended, greatest_confirmed}
use Rattle.change_outbox.specs.declared.change.Change.{Change}
use Rattle.change_outbox.proofs.Histories.{kept}
use Rattle.client_state.specs.declared.client_state.ClientState.{ClientState}
use Rattle.client_words.specs.declared.answer.Answer.TheVariants.{Okay}
use Rattle.client_words.specs.declared.refusal.Refusal.TheVariants.{NoSuchChange}
use Rattle.client_words.specs.declared.command.Command.{Command}
use Rattle.client_words.specs.declared.command.Command.TheVariants as commands
use Rattle.client_words.specs.declared.line.LineFault.{LineFault}
use Rattle.client_words.specs.Commands.{command_of}
use Rattle.client_steps.specs.EventSteps.{is_okay}
use Rattle.client_steps.specs.OutboxSteps.{confirmed_after}
use Rattle.client_steps.specs.Settings.{Setting}
use Rattle.client_store.specs.Store.{KeptFor}
use Rattle.client_steps.specs.Steps.{Accepted, Refused, Step, done, step}
use Rattle.client_steps.specs.declared.session.Session.{Session}
use Rattle.client_steps.proofs.OutboxSteps.{outbox_follows}
use Rattle.session_run.specs.Chains.{Link, IsChain, EndsKept, folded}
use Rattle.session_run.specs.Histories.{Turn, turns_of, history, done_in, command_done}
use Rattle.session_run.specs.OutboxChains.{changes_by, changes_over, confirmed_by, number_confirmed, confirmed_over}
use Rattle.session_run.specs.Steps.{RunState, begun, effect, run_after, all_after, after}
use Rattle.session_run.proofs.Chaining.{ends_kept, one_end}

-- ---- rows that stay

same_branch : (slug : List ℕ) (branch : Option (List ℕ)) → slug_changes slug branch branch ≡ []
same_branch slug None = refl
same_branch slug (Some branch) = ap (λ b. if b then [] else leave slug branch ∷ join slug branch ∷ []) ((bytes_decides branch branch).1 refl)

none_of : (rows : List Row) (slugs : List (List ℕ)) → flat_map (λ slug. slug_changes slug (branch_of slug rows) (branch_of slug rows)) slugs ≡ []
none_of rows [] = refl
none_of rows (slug ∷ slugs) = ap₂ (λ (x y : List Change). x ++ y) (same_branch slug (branch_of slug rows)) (none_of rows slugs)

pub none_between : (rows : List Row) → changes_between rows rows ≡ []
unfolding changes_between
none_between rows = none_of rows (all_slugs rows rows)

none_appended : (rows : List Row) (o : Contents) → o ≡ appended (changes_between rows rows) o
none_appended rows o =
    let next : o.next ≡ o.next + 0 = omega arith in
    let same : o ≡ appended [] o = (λ i. record { next = next i; entries = sym (append-nil o.entries) i }) in
    same ∙ ap (λ (cs : List Change). appended cs o) (sym (none_between rows))

-- ---- actions

-- the actions lead from one outbox to another, and each is accepted
record Follows (actions : List Action) (o p : Contents) : Type 0 where
  after_them : p ≡ outboxes.after actions o
  accepted : AreAccepted actions o

after-append : (xs ys : List Action) (o : Contents) → outboxes.after (xs ++ ys) o ≡ outboxes.after ys (outboxes.after xs o)
after-append [] ys o = refl
after-append (Append changes ∷ xs) ys o = after-append xs ys (appended changes o)
after-append (Confirm number ∷ xs) ys o = after-append xs ys (confirmed number o)

accepted-append : (xs ys : List Action) (o : Contents) → AreAccepted xs o → AreAccepted ys (outboxes.after xs o) → AreAccepted (xs ++ ys) o
accepted-append [] ys o x_are y_are = y_are
accepted-append (Append changes ∷ xs) ys o x_are y_are = accepted-append xs ys (appended changes o) x_are y_are
accepted-append (Confirm number ∷ xs) ys o x_are y_are = (x_are.0, accepted-append xs ys (confirmed number o) x_are.1 y_are)

follows-append : (xs ys : List Action) (o p q : Contents) → Follows xs o p → Follows ys p q → Follows (xs ++ ys) o q
follows-append xs ys o p q first second = record {
  after_them = second.after_them ∙ ap (outboxes.after ys) first.after_them ∙ sym (after-append xs ys o);
  accepted = accepted-append xs ys o first.accepted (subst (AreAccepted ys) first.after_them second.accepted);
}

-- ---- a command

-- what a command that is done confirms
abbrev confirms_by : Command → List Action
confirms_by (commands.Confirm number) = Confirm number ∷ []
confirms_by command = []

abbrev confirms : Option Command → List Action
confirms None = []
confirms (Some command) = confirms_by command

-- the command confirms nothing
record IsNone (command : Command) : Type 0 where
  actions : confirms_by command ≡ []
  number : confirmed_by command ≡ 0
  stays : (okay : Bool) (o : Contents) → confirmed_after command okay o ≡ o

none_or : (command : Command) → ((number : ℕ) × (command ≡ commands.Confirm number)) ⊎ IsNone command
none_or (commands.Confirm number) = inl (number, refl)
none_or command = inr (record { actions = refl; number = refl; stays = λ okay o. refl })

abbrev done_where : Command → Bool → Option Command
done_where command okay = if okay then Some command else None

-- what follows where it is done, or not
module _ (o : Contents) where
  no_actions : (command : Command) (okay : Bool) → confirms_by command ≡ [] → confirms (done_where command okay) ≡ []
  no_actions command true none = none
  no_actions command false none = refl

  none_follows : (command : Command) (okay : Bool) → IsNone command → Follows (confirms (done_where command okay)) o (confirmed_after command okay o)
  none_follows command okay none =
      subst (λ (actions : List Action). Follows actions o (confirmed_after command okay o)) (sym (no_actions command okay none.actions)) (record { after_them = none.stays okay o; accepted = tt })

  confirm_follows : (number : ℕ) (okay : Bool) → (okay ≡ true → number < o.next) → Follows (confirms (done_where (commands.Confirm number) okay)) o (confirmed_after (commands.Confirm number) okay o)
  confirm_follows number true known = record { after_them = refl; accepted = (known refl, tt) }
  confirm_follows number false known = record { after_them = refl; accepted = tt }

-- a confirmation that is done is of a number that a change had
module _ (s : ClientState) (session : Session) (number : ℕ) where
  abbrev without : ClientState
  without = record s { outbox = confirmed number s.outbox }

  known_at : (unknown : Bool) → nat_le s.outbox.next number ≡ unknown → is_okay (done s session (if unknown then Refused (NoSuchChange s.outbox.next) else Accepted without session Okay)).answer ≡ true → number < s.outbox.next
  known_at true e is = absurd cc
  known_at false e is = leb-false s.outbox.next number e

  known : (at : Setting) → is_okay (step at s session (commands.Confirm number)).answer ≡ true → number < s.outbox.next
  unfolding step
  known at is = known_at (nat_le s.outbox.next number) refl is

-- ---- a line

module _ (at : Setting) (run : RunState) where
  abbrev rows : List Row
  rows = run.state.enrolment.rows

  abbrev outbox : Contents
  outbox = run.state.outbox

  module _ (command : Command) where
    abbrev left : Step
    left = step at run.state run.session command

    -- the outbox with the changes that the command makes
    abbrev told : Contents
    told = appended (changes_between rows left.state.enrolment.rows) outbox

    confirmed_in : ((number : ℕ) × (command ≡ commands.Confirm number)) ⊎ IsNone command → Follows (confirms (done_where command (is_okay left.answer))) told (confirmed_after command (is_okay left.answer) told)
    confirmed_in (inr none) = none_follows told command (is_okay left.answer) none
    confirmed_in (inl (number, is)) =
        subst (λ (c : Command). Follows (confirms (done_where c (is_okay left.answer))) told (confirmed_after c (is_okay left.answer) told)) (sym is)
        (confirm_follows told number (is_okay left.answer) (λ okay.
        let below : number < outbox.next = known run.state run.session number at (subst (λ (c : Command). is_okay (step at run.state run.session c).answer ≡ true) is okay) in
        omega (arith, below)))

    command_follows : Follows (Append (changes_between rows left.state.enrolment.rows) ∷ confirms (done_where command (is_okay left.answer))) outbox left.state.outbox
    command_follows =
        let confirming = confirmed_in (none_or command) in
        record { after_them = outbox_follows.outbox at run.state run.session command ∙ confirming.after_them; accepted = confirming.accepted }

  read_follows : (read : Result Command LineFault) → Follows (Append (changes_between rows (effect at run read).state.enrolment.rows) ∷ confirms (done_in at run read)) outbox (effect at run read).state.outbox
  read_follows (Ok command) = command_follows command
  read_follows (Err fault) = record { after_them = none_appended rows outbox; accepted = tt }

-- what a line does to the outbox
abbrev actions_by : Turn → List Action
actions_by turn = Append (changes_by turn) ∷ confirms (command_done turn)

line_follows : (at : Setting) (run : RunState) (line : List ℕ) → Follows (actions_by (record { at = at; run = run; line = line })) run.state.outbox (run_after at run line).state.outbox
unfolding run_after command_done
line_follows at run line = read_follows at run (command_of line)

-- ---- lines, and runs

abbrev actions_over : List Turn → List Action
actions_over [] = []
actions_over (turn ∷ turns) = actions_by turn ++ actions_over turns

actions_over-append : (turns more : List Turn) → actions_over (turns ++ more) ≡ actions_over turns ++ actions_over more
actions_over-append [] more = refl
actions_over-append (turn ∷ turns) more = ap (λ (actions : List Action). actions_by turn ++ actions) (actions_over-append turns more) ∙ sym (append_assoc (actions_by turn) (actions_over turns) (actions_over more))

lines_follow : (at : Setting) (run : RunState) (lines : List (List ℕ)) → Follows (actions_over (turns_of at run lines)) run.state.outbox (all_after at run lines).state.outbox
lines_follow at run [] = record { after_them = refl; accepted = tt }
lines_follow at run (line ∷ lines) =
    let next = run_after at run line in
    follows-append (actions_by (record { at = at; run = run; line = line })) (actions_over (turns_of at next lines)) run.state.outbox next.state.outbox (all_after at next lines).state.outbox (line_follows at run line)
    (lines_follow at next lines)

runs_follow : (s : ClientState) (links : List Link) → Follows (actions_over (history s links)) s.outbox (folded s links).outbox
runs_follow s [] = record { after_them = refl; accepted = tt }
runs_follow s (link ∷ links) =
    let turns = turns_of link.at (begun s) (take link.k link.lines) in
    let next = after link.at s link.lines link.k in
    subst (λ (actions : List Action). Follows actions s.outbox (folded next links).outbox) (sym (actions_over-append turns (history next links)))
    (follows-append (actions_over turns) (actions_over (history next links)) s.outbox next.outbox (folded next links).outbox (lines_follow link.at (begun s) (take link.k link.lines)) (runs_follow next links))

-- ---- what the actions are of

appended_with : (command : Option Command) (rest : List Action) → all_appended (confirms command ++ rest) ≡ all_appended rest
appended_with None rest = refl
appended_with (Some command) rest =
    elim (none_or command) [
      | inl (number, is) ↦ ap (λ (c : Command). all_appended (confirms_by c ++ rest)) is
      | inr none ↦ ap (λ (actions : List Action). all_appended (actions ++ rest)) none.actions
    ]

appended_over : (turns : List Turn) → all_appended (actions_over turns) ≡ changes_over turns
appended_over [] = refl
appended_over (turn ∷ turns) = ap (λ (cs : List Change). changes_by turn ++ cs) (appended_with (command_done turn) (actions_over turns) ∙ appended_over turns)

greatest_with : (command : Option Command) (rest : List Action) → greatest_confirmed (confirms command ++ rest) ≡ max (number_confirmed command) (greatest_confirmed rest)
greatest_with None rest = omega arith
greatest_with (Some command) rest =
    elim (none_or command) [
      | inl (number, is) ↦ subst (λ (c : Command). greatest_confirmed (confirms_by c ++ rest) ≡ max (confirmed_by c) (greatest_confirmed rest)) (sym is) refl
      | inr none ↦
          let least : greatest_confirmed rest ≡ max 0 (greatest_confirmed rest) = omega arith in
          ap (λ (actions : List Action). greatest_confirmed (actions ++ rest)) none.actions ∙ least ∙ ap (λ (n : ℕ). max n (greatest_confirmed rest)) (sym none.number)
    ]

greatest_over : (turns : List Turn) → greatest_confirmed (actions_over turns) ≡ confirmed_over turns
greatest_over [] = refl
greatest_over (turn ∷ turns) = greatest_with (command_done turn) (actions_over turns) ∙ ap (λ (n : ℕ). max (number_confirmed (command_done turn)) n) (greatest_over turns)

-- the outbox to which these changes were appended, where those up to a number were confirmed
abbrev kept_of : List Change → ℕ → Contents
kept_of cs number = record { next = 1 + length cs; entries = above number (numbered 1 cs) }

pub outbox_is_kept : (l r : List ℕ) (s t : ClientState) (links : List Link) → KeptFor l r s → IsChain l r links → s.outbox ≡ no_changes → EndsKept l r links t
    → t.outbox ≡ kept_of (changes_over (history s links)) (confirmed_over (history s links))
outbox_is_kept l r s t links keeps chain none ends =
    let turns = history s links in
    let follow = runs_follow s links in
    ap (λ (x : ClientState). x.outbox) (one_end links l r t (folded s links) ends (ends_kept links l r s keeps chain))
    ∙ follow.after_them
    ∙ ap (outboxes.after (actions_over turns)) none
    ∙ kept (actions_over turns) (subst (AreAccepted (actions_over turns)) none follow.accepted)
    ∙ ap₂ kept_of (appended_over turns) (greatest_over turns)
