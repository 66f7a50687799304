-- The script of a drill is run, and then the summary is said.
use Rattle.std.proofs.Common.{◌≡◌, inl, inr, ℕ, ◌≤◌, ◌+◌, List, [], ◌∷◌, ◌++◌, take, refl, ◌∙◌, ap, subst, arith}
use Rattle.host_model.specs.declared.side.Side.{Side}
use Rattle.host_model.specs.declared.side.Side.TheVariants.{Left, Right}
use Rattle.host_model.specs.declared.host.Host.{Ghosts}
use Rattle.host_model.specs.Hosts.{MeetsAll, NowOf}
use Rattle.host_model.specs.Moments.{IsSaying, KeepsSide}
use Rattle.host_model.proofs.Meeting.{then_met, met_weaker}
use Rattle.pair_store.specs.Moments.{IsOpening}
use Rattle.enrol_states.specs.Statuses.{last_moment}
use Rattle.enrol_states.proofs.Fresh.{fresh-consistent}
use Rattle.client_state.specs.Sound.{IsSound}
use Rattle.client_state.proofs.Empty.{empty_is_sound}
use Rattle.state_codec.proofs.Fresh.{fresh_is_sound}
use Rattle.recipe_drill.specs.Parts.{drill_id}
use Rattle.client_store.specs.Moments.{IsLeftAmong}
use Rattle.client_store.specs.OpenStore.{AllKept}
use Rattle.client_store.specs.Store.{IsAbsent}
use Rattle.client_store.proofs.Holding.{kept_said}
use Rattle.client_store.proofs.Refusing.{among_not_absent}
use Rattle.session_run.specs.declared.status.RunStatus.{RunStatus}
use Rattle.session_run.specs.declared.status.RunStatus.TheVariants.{Done, Usage, ScriptTooLong, NoStore, AlreadyStore, BadStore, SourceFault, ShelfFault, DiskFault, SayFault, OutOfMemory}
use Rattle.session_run.specs.Drills.{drill_bytes, drill_fresh, drill_ready, drill_setting, drill_start, drill_summary, AfterReady, DuringDrill}
use Rattle.session_run.specs.DrillEnds.{SummaryEnds, AsksForAny, ScriptEnds, made_start, ReadyEnds, Drilled}
use Rattle.session_run.specs.Ends.{EndsWhole, EndsUnbegun, StaysAs, RunEnds}
use Rattle.session_run.specs.Finds.{MakingFinds, MakingLeaves, MakingFound}
use Rattle.session_run.specs.Making.{DuringMaking, Made}
use Rattle.session_run.specs.Moments.{AfterPrefix}
use Rattle.session_run.specs.Runs.{ServesValues}
use Rattle.session_run.specs.Starts.{Start, last_state}
use Rattle.session_run.proofs.DrillIds.{drill_id_reads}
use Rattle.client_words.proofs.Ids.{IsIdIn, id_in_text}
use Rattle.session_run.proofs.Judging.{making_judges}
use Rattle.session_run.proofs.Linking.{one_among}
use Rattle.session_run.specs.Writes.{IsBelowMark}
use Rattle.session_run.proofs.Values.{serves_values}
use Rattle.session_run.proofs.Writing.{at_each, below_then}

-- the state of its new store is sound
pub drill_sound : (now : ℕ) → now ≤ last_moment → IsSound (drill_fresh now)
drill_sound now moment = empty_is_sound _ (fresh_is_sound drill_bytes now (fresh-consistent drill_bytes now (subst IsIdIn drill_id_reads (id_in_text drill_id)) moment))

drill_values : (start count now : ℕ) (said : List ℕ) → now ≤ last_moment → ServesValues (drill_start start count now 0 said 0)
unfolding drill_setting
drill_values start count now said moment = serves_values (drill_start start count now 0 said 0) moment (drill_sound now moment)

module _ {H : Type 0} (h : Ghosts H) (start : Start) (summary : List ℕ) (old : H) where
  -- the lines alone
  pub lines_met : (new : H) → MeetsAll h old new (AfterPrefix start) → MeetsAll h old new (AfterReady start summary)
  lines_met new run = met_weaker h.moment h.might old new _ (AfterReady start summary) run (λ l r u met. inl met)

  stays_as : (asked : List (List ℕ) → Type 0) (new : H) → AllKept h new start.state → EndsUnbegun h asked start new → StaysAs h AsksForAny start new
  stays_as asked new kept unbegun = record { kept = kept; unbegun = record { text = unbegun.text; most = unbegun.most; asks = tt } }

  -- a run that did not do all ends a drill
  pub lines_end : (asked : List (List ℕ) → Type 0) (new : H) (status : RunStatus) → RunEnds h asked (start.state ∷ []) start old new status → (status ≡ Done → ⊥) → (status ≡ ScriptTooLong → ⊥) → (status ≡ SourceFault → ⊥) → (status ≡ ShelfFault → ⊥) → ScriptEnds h start summary new status
  lines_end asked new Done ends not_done short source shelf = absurd (not_done refl)
  lines_end asked new OutOfMemory (inl ends) not_done short source shelf = inl (record { k = ends.k; within = ends.within; kept = ends.kept; text = ends.text; cost = ends.cost; asks = tt })
  lines_end asked new OutOfMemory (inr (inl stays)) not_done short source shelf = inr (inl (stays_as asked new stays.kept stays.unbegun))
  lines_end asked new OutOfMemory (inr (inr stays)) not_done short source shelf = inr (inl (stays_as asked new (one_among h new start.state stays.kept) stays.unbegun))
  lines_end asked new DiskFault (inl ends) not_done short source shelf =
      inl (record { k = ends.k; within = ends.within; changes = ends.changes; kept = ends.kept; text = ends.text; least = ends.least; most = ends.most; asks = tt })
  lines_end asked new DiskFault (inr (inl stays)) not_done short source shelf = inr (stays_as asked new stays.kept stays.unbegun)
  lines_end asked new DiskFault (inr (inr stays)) not_done short source shelf = inr (stays_as asked new (one_among h new start.state stays.kept) stays.unbegun)
  lines_end asked new SayFault ends not_done short source shelf =
      inl (record { k = ends.k; within = ends.within; kept = ends.kept; part = ends.part; rest = ends.rest; both = ends.both; some = ends.some; text = ends.text; cost = ends.cost; asks = tt })
  lines_end asked new ShelfFault ends not_done short source shelf = absurd (shelf refl)
  lines_end asked new ScriptTooLong ends not_done short source shelf = absurd (short refl)
  lines_end asked new SourceFault ends not_done short source shelf = absurd (source refl)
  lines_end asked new Usage ends not_done short source shelf = absurd ends
  lines_end asked new NoStore ends not_done short source shelf = absurd ends
  lines_end asked new AlreadyStore ends not_done short source shelf = absurd ends
  lines_end asked new BadStore ends not_done short source shelf = absurd ends

  module _ (asked : List (List ℕ) → Type 0) (mid new : H) (whole : EndsWhole h asked start mid) where
    -- all lines are done, and then the summary is said
    pub summary_met : MeetsAll h old mid (AfterPrefix start) → MeetsAll h mid new (IsSaying (h.images mid) (h.said mid) summary) → MeetsAll h old new (AfterReady start summary)
    summary_met first second =
        then_met h.moment h.might old mid new (AfterReady start summary) (IsSaying (h.images mid) (h.said mid) summary) (AfterReady start summary) (lines_met mid first) second
        (λ l r u met. met)
        (λ l r u met. inr (record { kept = whole.kept l r met.0 met.1; n = met.2.0; text = met.2.1 ∙ ap (λ (d : List ℕ). d ++ take met.2.0 summary) whole.text }))

    pub summary_ends : ((side : Side) → KeepsSide h.reads h.images side mid new) → h.written new ≡ h.written mid → (status : RunStatus) → SummaryEnds (h.said mid) summary (h.said new) status → ScriptEnds h start summary new status
    summary_ends still written Done ends = record {
      kept = kept_said h mid new still (last_state start) whole.kept;
      text = ends ∙ ap (λ (d : List ℕ). d ++ summary) whole.text;
      cost = written ∙ whole.cost;
    }
    summary_ends still written SayFault (n, ends) = inr (record {
      kept = kept_said h mid new still (last_state start) whole.kept;
      n = n;
      text = ends ∙ ap (λ (d : List ℕ). d ++ take n summary) whole.text;
      cost = written ∙ whole.cost;
    })
    summary_ends still written OutOfMemory ends = inr (inr (record { kept = kept_said h mid new still (last_state start) whole.kept; text = ends ∙ whole.text; cost = written ∙ whole.cost; asks = tt }))
    summary_ends still written DiskFault ends = absurd ends
    summary_ends still written ShelfFault ends = absurd ends
    summary_ends still written ScriptTooLong ends = absurd ends
    summary_ends still written SourceFault ends = absurd ends
    summary_ends still written Usage ends = absurd ends
    summary_ends still written NoStore ends = absurd ends
    summary_ends still written AlreadyStore ends = absurd ends
    summary_ends still written BadStore ends = absurd ends

module _ {H : Type 0} (h : Ghosts H) (start count now : ℕ) where
  ready_finds : (old new : H) (l r : List ℕ) (status : RunStatus) → ReadyEnds h start count now old new status → IsAbsent l r → MakingFinds l r status
  ready_finds old new l r Done ends absent = absent
  ready_finds old new l r OutOfMemory ends absent = tt
  ready_finds old new l r DiskFault ends absent = tt
  ready_finds old new l r SayFault ends absent = absent
  ready_finds old new l r ShelfFault ends absent = absurd ends.ends
  ready_finds old new l r ScriptTooLong ends absent = absurd ends.ends
  ready_finds old new l r SourceFault ends absent = absurd ends.ends
  ready_finds old new l r Usage ends absent = absurd ends.ends
  ready_finds old new l r NoStore ends absent = absurd ends.ends
  ready_finds old new l r AlreadyStore ends absent = absurd ends.ends
  ready_finds old new l r BadStore ends absent = absurd ends.ends

  ready_leaves : (old new : H) (status : RunStatus) → ReadyEnds h start count now old new status → MakingLeaves h old new status
  ready_leaves old new Done ends = tt
  ready_leaves old new OutOfMemory ends = tt
  ready_leaves old new DiskFault ends = tt
  ready_leaves old new SayFault ends = tt
  ready_leaves old new ShelfFault ends = tt
  ready_leaves old new ScriptTooLong ends = tt
  ready_leaves old new SourceFault ends = tt
  ready_leaves old new Usage ends = tt
  ready_leaves old new NoStore ends = tt
  ready_leaves old new AlreadyStore ends = absurd ends.ends
  ready_leaves old new BadStore ends = absurd ends.ends

  -- the store is made, and what follows `ready` has ended
  module _ (old mid new : H) (status : RunStatus) (made : Made h drill_bytes now old mid Done) (absent : IsAbsent (h.reads old Left) (h.reads old Right)) (ends : ScriptEnds h (made_start h start count now mid) (drill_summary start count now) new status) where
    there : ReadyEnds h start count now old new status
    there = record { made = mid; making = made; ends = ends }

    pub found_made : MakingFound h old new status
    found_made =
        let finds = ready_finds old new (h.reads old Left) (h.reads old Right) status there absent in
        record { finds = finds; judges = making_judges (h.reads old Left) (h.reads old Right) status finds; leaves = ready_leaves old new status there; quiet = λ found. absurd (found absent) }

    pub drilled_made : now ≤ last_moment → h.images old Left (h.reads old Left) → h.images old Right (h.reads old Right) → h.images mid Left (h.reads mid Left) → h.images mid Right (h.reads mid Right)
        → ((l r : List ℕ) → h.images mid Left l → h.images mid Right r → IsBelowMark h old l r (h.said mid)) → MeetsAll h mid new (AfterReady (drill_start start count now 0 (h.said mid) 0) (drill_summary start count now)) → MeetsAll h mid new (IsBelowMark h mid)
        → Drilled h start count now old new status
    drilled_made moment left right mid_left mid_right now_below during below =
        let after_ready = λ (u : List ℕ). AfterReady (drill_start start count now 0 u 0) (drill_summary start count now) in
        record {
          moments = then_met h.moment h.might old mid new (DuringMaking (h.said old) (drill_fresh now) drill_ready) (after_ready (h.said old ++ drill_ready)) (DuringDrill start count now (h.said old)) made.moments
              (subst (λ (u : List ℕ). MeetsAll h mid new (after_ready u)) made.ends.1 during) (λ l r u met. inl met) (λ l r u met. inr met);
          ends = inr there;
          left = λ states all. absurd (among_not_absent (h.reads old Left) (h.reads old Right) states (all (h.reads old Left) (h.reads old Right) left right) absent);
          values = drill_values start count now (h.said old ++ drill_ready) moment;
          below = below_then h old mid new mid_left mid_right made.below now_below below;
        }

  -- the store is not made, or it is not said to be ready
  module _ (old new : H) where
    pub drilled_unmade : now ≤ last_moment → (status : RunStatus) → Made h drill_bytes now old new status → (status ≡ Done → ⊥) → Drilled h start count now old new status
    drilled_unmade moment status made not_done = record {
      moments = met_weaker h.moment h.might old new _ (DuringDrill start count now (h.said old)) made.moments (λ l r u met. inl met);
      ends = inl (not_done, made);
      left = made.left;
      values = drill_values start count now (h.said old ++ drill_ready) moment;
      below = made.below;
    }

  -- there is no memory for the drill
  pub drilled_unbegun : (old : H) → now ≤ last_moment → MeetsAll h old old (NowOf h old) → Drilled h start count now old old OutOfMemory
  drilled_unbegun old moment run = record {
    moments = met_weaker h.moment h.might old old _ (DuringDrill start count now (h.said old)) run (λ l r u met. inl (inl met.2));
    ends = inl (
      λ is. absurd cc,
      record {
        moments = met_weaker h.moment h.might old old _ (DuringMaking (h.said old) (drill_fresh now) drill_ready) run (λ l r u met. inl met.2);
        phases = record { made = old; making = inr (inr (inr (refl, refl))); says = inl refl };
        ends = refl;
        left = λ states all. met_weaker h.moment h.might old old _ (IsLeftAmong (h.said old) states) run (λ l r u met. (all l r met.0 met.1, met.2));
        memory = λ is. record { moments = met_weaker h.moment h.might old old _ (IsOpening h old) run (λ l r u met. inl met); text = refl; most = omega arith };
        store = λ is. absurd is;
        most = λ absent. omega arith;
        below = met_weaker h.moment h.might old old _ (IsBelowMark h old) run (λ l r u met. at_each h old old l r met.0 met.1);
      },
    );
    left = λ states all. met_weaker h.moment h.might old old _ (IsLeftAmong (h.said old) states) run (λ l r u met. (all l r met.0 met.1, met.2));
    values = drill_values start count now (h.said old ++ drill_ready) moment;
    below = met_weaker h.moment h.might old old _ (IsBelowMark h old) run (λ l r u met. at_each h old old l r met.0 met.1);
  }
