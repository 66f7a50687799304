-- The counts of events, command by command, line by line and run by run.
use Rattle.std.proofs.Common.{◌≡◌, ℕ, Bool, true, false, List, [], ◌∷◌, ◌++◌, take, refl, sym, ◌∙◌, ap, Some, None, Result, Ok, Err}
use Rattle.std.specs.Prelude.{if◌then◌else◌}
use Rattle.json_tree.specs.Json.{get}
use Rattle.event_counts.specs.History.{Event, counts_after, dated, history_view}
use Rattle.event_counts.specs.Kept.{counted_in}
use Rattle.event_counts.specs.View.{view_of}
use Rattle.event_counts.specs.declared.name_counts.NameCounts.{NameCounts}
use Rattle.event_counts.proofs.Adding.{views_add_up}
use Rattle.client_state.specs.declared.client_state.ClientState.{ClientState}
use Rattle.client_words.specs.declared.command.Command.{Command}
use Rattle.client_words.specs.declared.command.Command.TheVariants as commands
use Rattle.client_words.specs.declared.line.LineFault.{LineFault}
use Rattle.client_words.specs.Commands.{command_of}
use Rattle.client_steps.specs.EventSteps.{is_okay, counts_after as counts_then}
use Rattle.client_steps.specs.Settings.{Setting}
use Rattle.client_store.specs.Store.{KeptFor}
use Rattle.client_steps.specs.Steps.{step}
use Rattle.client_steps.proofs.EventSteps.{events_follow}
use Rattle.session_run.specs.Chains.{Link, IsChain, EndsKept, folded}
use Rattle.session_run.specs.EventChains.{noted_by, noted, events_over}
use Rattle.session_run.specs.Histories.{Turn, turns_of, history, done_in, command_done}
use Rattle.session_run.specs.Steps.{RunState, begun, effect, run_after, all_after, after}
use Rattle.session_run.proofs.Chaining.{ends_kept, one_end}

-- ---- events are counted one after the other

-- an event more is counted last
counts_after-push : (ns : List NameCounts) (es : List Event) (e : Event) → counts_after ns (es ++ e ∷ []) ≡ counted_in e.name e.count e.moment (counts_after ns es)
counts_after-push ns [] e = refl
counts_after-push ns (first ∷ es) e = counts_after-push (counted_in first.name first.count first.moment ns) es e

-- what a command that is done makes of the events, it makes of their counts
counts_noted : (now : ℕ) (command : Command) (es : List Event) → counts_then now command true (counts_after [] es) ≡ counts_after [] (noted_by now command es)
counts_noted now (commands.Event name count) es = sym (counts_after-push [] es (record { name = name; count = count; moment = now }))
counts_noted now (commands.Reset id) es = refl
counts_noted now (commands.Manifest file channel) es = refl
counts_noted now (commands.Context file) es = refl
counts_noted now (commands.Fetch file) es = refl
counts_noted now commands.Apply es = refl
counts_noted now (commands.Participate part on) es = refl
counts_noted now (commands.OptOut slug) es = refl
counts_noted now (commands.OptIn slug branch) es = refl
counts_noted now commands.Show es = refl
counts_noted now (commands.Feature name) es = refl
counts_noted now commands.WriteManifest es = refl
counts_noted now commands.Changes es = refl
counts_noted now (commands.Confirm number) es = refl
counts_noted now (commands.Bind file) es = refl
counts_noted now (commands.SetPreference name value) es = refl
counts_noted now (commands.ClearPreference name) es = refl
counts_noted now commands.Preferences es = refl

-- one that is not done makes nothing of them
counts_stay : (now : ℕ) (command : Command) (ns : List NameCounts) → counts_then now command false ns ≡ ns
counts_stay now (commands.Event name count) ns = refl
counts_stay now (commands.Reset id) ns = refl
counts_stay now (commands.Manifest file channel) ns = refl
counts_stay now (commands.Context file) ns = refl
counts_stay now (commands.Fetch file) ns = refl
counts_stay now commands.Apply ns = refl
counts_stay now (commands.Participate part on) ns = refl
counts_stay now (commands.OptOut slug) ns = refl
counts_stay now (commands.OptIn slug branch) ns = refl
counts_stay now commands.Show ns = refl
counts_stay now (commands.Feature name) ns = refl
counts_stay now commands.WriteManifest ns = refl
counts_stay now commands.Changes ns = refl
counts_stay now (commands.Confirm number) ns = refl
counts_stay now (commands.Bind file) ns = refl
counts_stay now (commands.SetPreference name value) ns = refl
counts_stay now (commands.ClearPreference name) ns = refl
counts_stay now commands.Preferences ns = refl

-- ---- a line

-- the counts are those of the events
abbrev AreOf : List Event → List NameCounts → Type 0
AreOf es ns = ns ≡ counts_after [] es

noted_where : (now : ℕ) (command : Command) (okay : Bool) (es : List Event) → AreOf (noted now (if okay then Some command else None) es) (counts_then now command okay (counts_after [] es))
noted_where now command true es = counts_noted now command es
noted_where now command false es = counts_stay now command (counts_after [] es)

module _ (at : Setting) (run : RunState) (es : List Event) (are : AreOf es run.state.events) where
  read_counts : (read : Result Command LineFault) → AreOf (noted at.now (done_in at run read) es) (effect at run read).state.events
  read_counts (Ok command) =
      let okay = is_okay (step at run.state run.session command).answer in
      events_follow at run.state run.session command ∙ ap (counts_then at.now command okay) are ∙ noted_where at.now command okay es
  read_counts (Err fault) = are

  line_counts : (line : List ℕ) → AreOf (noted at.now (command_done (record { at = at; run = run; line = line })) es) (run_after at run line).state.events
  unfolding run_after command_done
  line_counts line = read_counts (command_of line)

-- ---- lines

lines_count : (at : Setting) (run : RunState) (lines : List (List ℕ)) (es : List Event) → AreOf es run.state.events → AreOf (events_over (turns_of at run lines) es) (all_after at run lines).state.events
lines_count at run [] es are = are
lines_count at run (line ∷ lines) es are =
    lines_count at (run_after at run line) lines (noted at.now (command_done (record { at = at; run = run; line = line })) es) (line_counts at run es are line)

-- ---- runs

events_over-append : (turns more : List Turn) (es : List Event) → events_over (turns ++ more) es ≡ events_over more (events_over turns es)
events_over-append [] more es = refl
events_over-append (turn ∷ turns) more es = events_over-append turns more (noted turn.at.now (command_done turn) es)

runs_count : (s : ClientState) (links : List Link) (es : List Event) → AreOf es s.events → AreOf (events_over (history s links) es) (folded s links).events
runs_count s [] es are = are
runs_count s (link ∷ links) es are =
    let turns = turns_of link.at (begun s) (take link.k link.lines) in
    let next = after link.at s link.lines link.k in
    runs_count next links (events_over turns es) (lines_count link.at (begun s) (take link.k link.lines) es are)
    ∙ sym (ap (counts_after []) (events_over-append turns (history next links) es))

pub events_are_kept : (l r : List ℕ) (s t : ClientState) (links : List Link) → KeptFor l r s → IsChain l r links → s.events ≡ [] → EndsKept l r links t → (now : ℕ) (name : List ℕ)
    → get name (view_of now t.events) ≡ history_view now name (dated 0 (events_over (history s links) []))
events_are_kept l r s t links kept chain none ends now name =
    let are : t.events ≡ counts_after [] (events_over (history s links) []) =
    ap (λ (x : ClientState). x.events) (one_end links l r t (folded s links) ends (ends_kept links l r s kept chain)) ∙ runs_count s links [] none in
    ap (λ (ns : List NameCounts). get name (view_of now ns)) are ∙ views_add_up (events_over (history s links) []) now name
