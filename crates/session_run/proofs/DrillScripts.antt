-- What was run is the script of a drill over its files.
use Rattle.std.proofs.Common.{◌≡◌, inl, inr, ℕ, List, [], ◌∷◌, ◌∙◌, ap, subst}
use Rattle.host_model.specs.declared.side.Side.{Side}
use Rattle.host_model.specs.declared.host.Host.{Ghosts}
use Rattle.host_model.specs.Hosts.{MeetsAll}
use Rattle.host_model.specs.Moments.{IsSaying, KeepsSide}
use Rattle.host_model.proofs.Meeting.{met_weaker}
use Rattle.client_state.specs.declared.client_state.ClientState.{ClientState}
use Rattle.recipe_drill.specs.declared.drill.Drill.{Drill}
use Rattle.recipe_drill.specs.Parts.{Parts, parts_of, drill}
use Rattle.recipe_drill.specs.Summary as counts
use Rattle.client_steps.specs.Settings.{Setting}
use Rattle.client_words.specs.Commands.{lines_of}
use Rattle.session_run.specs.declared.status.RunStatus.{RunStatus}
use Rattle.session_run.specs.declared.status.RunStatus.TheVariants.{Done, ScriptTooLong, SourceFault, ShelfFault}
use Rattle.session_run.specs.Drills.{file_among, drill_fresh, drill_setting, drill_lines, drill_start, drill_summary, AfterReady}
use Rattle.session_run.specs.DrillEnds.{SummaryEnds, ScriptEnds}
use Rattle.session_run.specs.Ends.{EndsWhole, RunEnds}
use Rattle.session_run.specs.Moments.{AfterPrefix}
use Rattle.session_run.specs.Starts.{Start, last_state}
use Rattle.session_run.proofs.Drilling.{lines_met, lines_end, summary_met, summary_ends}
use Rattle.session_run.proofs.Running.{elsewhere}
use Rattle.session_run.proofs.Starting.{begin}

-- the files of these parts, and this moment
abbrev pub setting_with : Parts → ℕ → Setting
setting_with p now = record { files = file_among p.manifest p.context p.recipes; now = now }

module _ (d : Drill) (start count : ℕ) (is : parts_of d ≡ drill start count) where
  pub setting_is : (now : ℕ) → setting_with (parts_of d) now ≡ drill_setting start count now
  unfolding drill_setting
  setting_is now = ap (λ (p : Parts). setting_with p now) is

  pub lines_are : (text : List ℕ) → text ≡ d.script → lines_of text ≡ drill_lines
  unfolding drill_lines
  lines_are text same = ap lines_of same ∙ ap (λ (p : Parts). lines_of p.script) is

module _ {H : Type 0} (h : Ghosts H) (start count now : ℕ) (at : Setting) (lines : List (List ℕ)) (at_is : at ≡ drill_setting start count now) (same : lines ≡ drill_lines) (old : H) where
  module _ (place written : ℕ) where
    -- what these lines begin with
    abbrev pub here : Start
    here = begin at (drill_fresh now) place lines (h.said old) written

    -- is what a drill's begin with
    abbrev pub there : Start
    there = drill_start start count now place (h.said old) written

    here_is : here ≡ there
    here_is =
        ap (λ (a : Setting). begin a (drill_fresh now) place lines (h.said old) written) at_is
        ∙ ap (λ (l : List (List ℕ)). begin (drill_setting start count now) (drill_fresh now) place l (h.said old) written) same

    pub unsaid_ends : (asked : List (List ℕ) → Type 0) (mid : H) (status : RunStatus) → RunEnds h asked (drill_fresh now ∷ []) here old mid status → (status ≡ Done → ⊥) → (status ≡ ScriptTooLong → ⊥) → (status ≡ SourceFault → ⊥) → (status ≡ ShelfFault → ⊥)
        → ScriptEnds h there (drill_summary start count now) mid status
    unsaid_ends asked mid status ends not_done short source shelf =
        lines_end h there (drill_summary start count now) old asked mid status (subst (λ (s : Start). RunEnds h asked (drill_fresh now ∷ []) s old mid status) here_is ends) not_done short source shelf

    -- all lines are done and answered, and the summary of their last state is said
    module _ (asked : List (List ℕ) → Type 0) (mid new : H) (last : ClientState) (last_is : last ≡ last_state here) (all : EndsWhole h asked here mid) where
      pub summary_is : counts.summary start count last.enrolment ≡ drill_summary start count now
      summary_is = ap (λ (s : ClientState). counts.summary start count s.enrolment) (last_is ∙ ap last_state here_is)

      pub whole : EndsWhole h asked there mid
      whole = subst (λ (s : Start). EndsWhole h asked s mid) here_is all

      pub said_ends : ((side : Side) → KeepsSide h.reads h.images side mid new) → h.written new ≡ h.written mid → (status : RunStatus) → SummaryEnds (h.said mid) (counts.summary start count last.enrolment) (h.said new) status → ScriptEnds h there (drill_summary start count now) new status
      said_ends still count_same status ends =
          summary_ends h there (drill_summary start count now) old asked mid new whole still count_same status
          (subst (λ (text : List ℕ). SummaryEnds (h.said mid) text (h.said new) status) summary_is ends)

      pub said_met : MeetsAll h old mid (AfterPrefix here) → MeetsAll h mid new (IsSaying (h.images mid) (h.said mid) (counts.summary start count last.enrolment)) → MeetsAll h old new (AfterReady there (drill_summary start count now))
      said_met run second =
          summary_met h there (drill_summary start count now) old asked mid new whole (subst (λ (s : Start). MeetsAll h old mid (AfterPrefix s)) here_is run)
          (subst (λ (text : List ℕ). MeetsAll h mid new (IsSaying (h.images mid) (h.said mid) text)) summary_is second)

    -- not all lines are
    pub unsaid_met : (mid : H) → MeetsAll h old mid (AfterPrefix here) → MeetsAll h old mid (AfterReady there (drill_summary start count now))
    unsaid_met mid run = lines_met h there (drill_summary start count now) old mid (subst (λ (s : Start). MeetsAll h old mid (AfterPrefix s)) here_is run)

    -- where its records begin is not met
    pub ready_elsewhere : (new : H) → MeetsAll h old new (AfterReady there (drill_summary start count now)) → MeetsAll h old new (AfterReady (drill_start start count now 0 (h.said old) 0) (drill_summary start count now))
    ready_elsewhere new run = met_weaker h.moment h.might old new _ (AfterReady (drill_start start count now 0 (h.said old) 0) (drill_summary start count now)) run (λ l r u met. elim met [
      | inl lines_ran ↦ inl (elsewhere (drill_setting start count now) (drill_fresh now) drill_lines (h.said old) place written 0 0 l r u lines_ran)
      | inr summary ↦ inr (record { kept = summary.kept; n = summary.n; text = summary.text })
    ])
