-- A run over a store: it ended before the pair was judged, or the store was opened and its lines were done.
use Rattle.std.proofs.Common.{◌≡◌, ◌⊎◌, inl, inr, ℕ, ◌≤◌, ◌+◌, List, [], refl, ◌∙◌, subst, arith, Result, Ok, Err}
use Rattle.host_model.specs.declared.side.Side.TheVariants.{Left, Right}
use Rattle.host_model.specs.declared.host.Host.{Ghosts}
use Rattle.host_model.specs.declared.shelf.Shelf as shelves
use Rattle.host_model.specs.Hosts.{MeetsAll, NowOf}
use Rattle.host_model.proofs.Meeting.{then_met, met_weaker}
use Rattle.gate_journal.specs.Records.{place_of}
use Rattle.pair_store.specs.Repair.{repair_cost}
use Rattle.enrol_states.specs.Statuses.{last_moment}
use Rattle.client_state.specs.declared.client_state.ClientState.{ClientState}
use Rattle.client_state.specs.Forms.{needs_migration}
use Rattle.client_core.specs.declared.client.Client.{Client}
use Rattle.pair_store.specs.declared.faults.PairFault.{PairFault}
use Rattle.pair_store.specs.declared.faults.PairFault.TheVariants.{NoStore, BadStore, DiskFault, OutOfMemory}
use Rattle.client_core.specs.Clients.{state_of, end_of, HasGateOn}
use Rattle.client_store.specs.Finds.{OpenFinds}
use Rattle.client_store.specs.Moments.{IsLeftAs, IsLeftAmong}
use Rattle.client_store.specs.Migrations.{OpensWith, place_opened, opening_bytes}
use Rattle.client_store.specs.Openings.{IsReadOrMigrating, OpensInPhases, OpenLeaves}
use Rattle.client_core.specs.Openings.{IsOpened}
use Rattle.client_store.specs.OpenStore.{AllKept, AllKeptAmong}
use Rattle.client_steps.specs.Settings.{setting}
use Rattle.client_store.specs.Store.{StandsFor, KeptFor, IsStore}
use Rattle.client_store.proofs.Holding.{stands_of_kept}
use Rattle.client_store.proofs.Moments.{met_now}
use Rattle.client_store.proofs.Openings.{phase_kept}
use Rattle.client_store.proofs.Refusing.{stands_not_absent}
use Rattle.session_run.specs.declared.faults.RunFault.{RunFault}
use Rattle.session_run.specs.declared.faults.RunFault.TheVariants as run
use Rattle.session_run.specs.declared.status.RunStatus.{RunStatus}
use Rattle.session_run.specs.declared.status.RunStatus.TheVariants as status
use Rattle.session_run.specs.Chains.{IsLinked}
use Rattle.session_run.specs.Ends.{LinesEnd, EndsUnbegun, StaysAs, RunEnds}
use Rattle.session_run.specs.Finds.{RunFinds, RunLeaves}
use Rattle.session_run.specs.Moments.{AfterPrefix, EndsEarly, InPhases}
use Rattle.session_run.specs.Runs.{LinesRan, StandsAfter, Ran}
use Rattle.session_run.specs.Starts.{Start, start_on, opened_on}
use Rattle.session_run.specs.Statuses.{of_store, of_run}
use Rattle.session_run.proofs.Ending.{run_ends, early_ends, never_done}
use Rattle.session_run.proofs.Linking.{linked_now, linked_from}
use Rattle.session_run.proofs.Phases.{SyncsAndOpens, Begins, unopened_begins, opened_begins}
use Rattle.session_run.proofs.Running.{some_at_start, elsewhere}
use Rattle.session_run.proofs.Starting.{same_start}
use Rattle.session_run.proofs.Values.{serves_values}

-- ---- the store was not opened

pub store_not_done : (fault : PairFault) → of_store fault ≡ status.Done → ⊥
store_not_done NoStore is = absurd cc
store_not_done BadStore is = absurd cc
store_not_done DiskFault is = absurd cc
store_not_done OutOfMemory is = absurd cc

-- what a run found that wasn't opened
pub run_finds : (l r : List ℕ) (fault : PairFault) → OpenFinds l r fault → RunFinds l r (of_store fault)
run_finds l r NoStore finds = finds
run_finds l r BadStore finds = finds
run_finds l r DiskFault finds = tt
run_finds l r OutOfMemory finds = tt

-- what a pair that stands for a state is opened with
opens_somehow : (l r : List ℕ) (s : ClientState) → StandsFor l r s → (place bytes : ℕ) × OpensWith l r s place bytes
opens_somehow l r s stands =
    let migrates = needs_migration stands.stored in
    let before = place_of stands.rows.0 in (
      place_opened migrates before s,
      repair_cost l r + opening_bytes migrates before s,
      record { stands = stands; before = before; began = (stands.rows.0, stands.rows.1, refl); place_is = refl; written_is = refl },
    )

no_less : (n m : ℕ) → n ≤ n + m
no_less n m = omega arith

module _ {H : Type 0} (h : Ghosts H) (old new : H) where
  -- what it leaves
  pub unopened_leaves : (fault : PairFault) → OpenLeaves h old new fault → RunLeaves h old new (of_store fault)
  unopened_leaves NoStore leaves = leaves
  unopened_leaves BadStore leaves = leaves.0
  unopened_leaves DiskFault leaves = tt
  unopened_leaves OutOfMemory leaves = tt

  pub lines_leave : (fault : RunFault) → RunLeaves h old new (of_run fault)
  lines_leave run.ShelfFault = tt
  lines_leave run.DiskFault = tt
  lines_leave run.SayFault = tt
  lines_leave run.OutOfMemory = tt

-- a store that stood for a state is not opened where the disk has failed or memory is wanting
synced_ends : {H : Type 0} (h : Ghosts H) (asked : List (List ℕ) → Type 0) (states : List ClientState) (start : Start) (old new : H) (l r : List ℕ) → StandsFor l r start.state → (fault : PairFault) → OpenFinds l r fault → StaysAs h asked start new
    → RunEnds h asked states start old new (of_store fault)
synced_ends h asked states start old new l r stands NoStore finds stays = absurd (stands_not_absent l r start.state stands finds)
synced_ends h asked states start old new l r stands BadStore finds stays = absurd (finds.no_state start.state stands)
synced_ends h asked states start old new l r stands DiskFault finds stays = inr (inl stays)
synced_ends h asked states start old new l r stands OutOfMemory finds stays = inr (inl stays)

-- ---- its lines were done

-- the status of lines
abbrev pub of_lines : Result (Unit {0}) RunFault → RunStatus
of_lines (Ok done) = status.Done
of_lines (Err fault) = of_run fault

pub lines_end : {H : Type 0} (h : Ghosts H) (asked : List (List ℕ) → Type 0) (states : List ClientState) (start : Start) (old new : H) (result : Result (Unit {0}) RunFault) → LinesEnd h asked start new result → RunEnds h asked states start old new (of_lines result)
lines_end h asked states start old new (Ok done) ends = ends
lines_end h asked states start old new (Err fault) ends = run_ends h asked states start old new fault ends

-- what a run found that did lines
pub lines_find : (l r : List ℕ) (fault : RunFault) → IsStore l r → RunFinds l r (of_run fault)
lines_find l r run.ShelfFault store = store
lines_find l r run.DiskFault store = tt
lines_find l r run.SayFault store = store
lines_find l r run.OutOfMemory store = tt

-- the store was opened, and then came the moments of the lines
record WentOn {H : Type 0} (h : Ghosts H) (old new : H) (start : Start) (answered : RunStatus) : Type 0 where
  opened : H
  opening : SyncsAndOpens h old opened answered
  third : MeetsAll h opened new (AfterPrefix start)

module _ {F H : Type 0} (f : shelves.Ghosts F) (h : Ghosts H) (asked : List (List ℕ) → Type 0) (now : ℕ) (moment : now ≤ last_moment) (shelf : F) (old : H) (lines : List (List ℕ)) (old_left : h.images old Left (h.reads old Left)) (old_right : h.images old Right (h.reads old Right))
    (tells : h.tells) (counts : (host : H) (t : ℕ) (l r u : List ℕ) → h.tells → t ≤ h.moment host → NowOf h host l r u → h.might host t l r u) where
  abbrev from : ClientState → ℕ → ℕ → Start
  from s place bytes = opened_on f h now shelf old lines s place bytes

  abbrev WasKept : ClientState → Type 0
  WasKept s = KeptFor (h.reads old Left) (h.reads old Right) s

  abbrev Stood : ClientState → Type 0
  Stood s = StandsFor (h.reads old Left) (h.reads old Right) s

  stood : (s : ClientState) → WasKept s → Stood s
  stood s kept = stands_of_kept (h.reads old Left) (h.reads old Right) s kept

  -- behind the syncs each image is kept for the state that was read
  opened_kept : (s : ClientState) → WasKept s → (opened : H) (answered : RunStatus) → SyncsAndOpens h old opened answered → AllKept h opened s
  opened_kept s kept opened answered opening l r left right =
      (phase_kept h old s kept l r (h.said opened) (met_now h opening.synced opened (IsReadOrMigrating h old) opening.second (counts opened) tells l r left right)).0

  -- ---- the moments, from a state

  module _ (s : ClientState) (place bytes : ℕ) where
    -- before the first line
    begun_met : (l r u : List ℕ) → IsLeftAs (h.said old) s l r u → AfterPrefix (from s place bytes) l r u
    begun_met l r u met = some_at_start (setting f shelf now) s place lines (h.said old) (h.written old + bytes) l r u met.0 met.1

    now_met : AllKept h old s → (l r u : List ℕ) → NowOf h old l r u → AfterPrefix (from s place bytes) l r u
    now_met all l r u met = begun_met l r u (all l r met.0 met.1, met.2)

    module _ (new : H) (answered : RunStatus) where
      -- the run had ended before both sides were synced, or not
      abbrev Goes : Type 0
      Goes = (EndsEarly h old new answered × MeetsAll h old new (NowOf h old)) ⊎ WentOn h old new (from s place bytes) answered

      synced_met : WasKept s → (went : WentOn h old new (from s place bytes) answered) → MeetsAll h went.opening.synced new (AfterPrefix (from s place bytes))
      synced_met kept went =
          then_met h.moment h.might went.opening.synced went.opened new (IsReadOrMigrating h old) (AfterPrefix (from s place bytes)) (AfterPrefix (from s place bytes)) went.opening.second went.third
          (λ l r u met. begun_met l r u (phase_kept h old s kept l r u met)) (λ l r u met. met)

      crash_in : Goes → WasKept s → AllKept h old s → MeetsAll h old new (AfterPrefix (from s place bytes))
      crash_in (inl early) kept all = met_weaker h.moment h.might old new (NowOf h old) (AfterPrefix (from s place bytes)) early.1 (now_met all)
      crash_in (inr went) kept all =
          then_met h.moment h.might old went.opening.synced new (NowOf h old) (AfterPrefix (from s place bytes)) (AfterPrefix (from s place bytes)) went.opening.first (synced_met kept went) (now_met all) (λ l r u met. met)

      module _ (states : List ClientState) (all : AllKeptAmong h old states) where
        among_met : (mid : H) → MeetsAll h old mid (NowOf h old) → MeetsAll h old mid (IsLeftAmong (h.said old) states)
        among_met mid run = met_weaker h.moment h.might old mid (NowOf h old) (IsLeftAmong (h.said old) states) run (λ l r u met. (all l r met.0 met.1, met.2))

        phases_in : Goes → WasKept s → InPhases h states (from s place bytes) old new answered
        phases_in (inl early) kept = inl (early.0, among_met new early.1)
        phases_in (inr went) kept =
            let opening = went.opening in
            inr (record {
              synced = opening.synced;
              first = among_met opening.synced opening.first;
              unwritten = opening.unwritten;
              opened = went.opened;
              second = met_weaker h.moment h.might opening.synced went.opened (IsReadOrMigrating h old) (IsLeftAs (h.said old) s) opening.second (phase_kept h old s kept);
              bytes = opening.bytes;
              kept = opened_kept s kept went.opened answered opening;
              third = went.third;
            })

        links_in : Goes → WasKept s → MeetsAll h old new (IsLinked h old (from s place bytes))
        links_in (inl early) kept =
            met_weaker h.moment h.might old new (NowOf h old) (IsLinked h old (from s place bytes)) early.1 (linked_now h old (from s place bytes) refl states all)
        links_in (inr went) kept =
            then_met h.moment h.might old went.opening.synced new (NowOf h old) (AfterPrefix (from s place bytes)) (IsLinked h old (from s place bytes)) went.opening.first (synced_met kept went)
            (linked_now h old (from s place bytes) refl states all) (linked_from h old (from s place bytes) old_left old_right kept)

  -- ---- the run

  -- how it ended
  abbrev Ends : H → RunStatus → Type 0
  Ends new answered = (states : List ClientState) (s : ClientState) → AllKeptAmong h old states → WasKept s → (place bytes : ℕ) × OpensWith (h.reads old Left) (h.reads old Right) s place bytes × RunEnds h asked states (from s place bytes) old new answered

  -- what it did without a crash
  abbrev Did : H → RunStatus → Type 0
  Did new answered = answered ≡ status.Done → (s : ClientState) → Stood s → (place bytes : ℕ) × OpensWith (h.reads old Left) (h.reads old Right) s place bytes × StandsAfter h (from s place bytes) old new

  module _ (new : H) (answered : RunStatus) where
    ran : ((s : ClientState) (place bytes : ℕ) → WasKept s → Goes s place bytes new answered) → Ends new answered → Did new answered → Ran h asked from old new answered
    ran goes ends done = record {
      crash = λ s all. let kept = all (h.reads old Left) (h.reads old Right) old_left old_right in crash_in s 0 0 new answered (goes s 0 0 kept) kept all;
      phases = λ states s all kept. phases_in s 0 0 new answered states all (goes s 0 0 kept) kept;
      ends = ends;
      links = λ states s all kept. links_in s 0 0 new answered states all (goes s 0 0 kept) kept;
      done = done;
      values = λ s stands. serves_values (from s 0 0) moment stands.sound;
    }

  -- the store was not reached
  pub ran_unreached : asked [] → (answered : RunStatus) → EndsEarly h old old answered → MeetsAll h old old (NowOf h old) → Ran h asked from old old answered
  ran_unreached asks answered early still =
      ran old answered (λ s place bytes kept. inl (early, still))
      (λ states s all kept.
      let opened = opens_somehow (h.reads old Left) (h.reads old Right) s (stood s kept) in (
        opened.0,
        opened.1,
        opened.2,
        early_ends h asked states (from s opened.0 opened.1) old old answered (record { early = early; kept = all; unbegun = record { text = refl; most = no_less (h.written old) opened.1; asks = asks } }),
      ))
      (λ is. absurd (subst (EndsEarly h old old) is early))

  -- the store was not opened
  module _ (new : H) (fault : PairFault) (phases : OpensInPhases {T = Client} h old new (Err fault)) (finds : OpenFinds (h.reads old Left) (h.reads old Right) fault) (text : h.said new ≡ h.said old) (still : MeetsAll h new new (NowOf h new)) where
    begins : Begins h old new (of_store fault)
    begins = unopened_begins h old new fault phases

    unopened_goes : (s : ClientState) (place bytes : ℕ) → WasKept s → Goes s place bytes new (of_store fault)
    unopened_goes s place bytes kept = elim begins [
      | inl early ↦ inl early
      | inr opening ↦ inr (record {
        opened = new;
        opening = opening;
        third = met_weaker h.moment h.might new new (NowOf h new) (AfterPrefix (from s place bytes)) still
            (λ l r u met. begun_met s place bytes l r u (opened_kept s kept new (of_store fault) opening l r met.0 met.1, met.2 ∙ text));
      })
    ]

    module _ (states : List ClientState) (s : ClientState) (place bytes : ℕ) (all : AllKeptAmong h old states) (kept : WasKept s) (unbegun : EndsUnbegun h asked (from s place bytes) new) where
      unopened_ends : RunEnds h asked states (from s place bytes) old new (of_store fault)
      unopened_ends = elim begins [
        | inl early ↦ early_ends h asked states (from s place bytes) old new (of_store fault) (record {
          early = early.0;
          kept = λ l r left right. let there = met_now h old new (NowOf h old) early.1 (counts new) tells l r left right in all l r there.0 there.1;
          unbegun = unbegun;
        })
        | inr opening ↦ synced_ends h asked states (from s place bytes) old new (h.reads old Left) (h.reads old Right) (stood s kept) fault finds (record { kept = opened_kept s kept new (of_store fault) opening; unbegun = unbegun })
      ]

    pub ran_unopened : asked [] → ((s : ClientState) (place bytes : ℕ) → OpensWith (h.reads old Left) (h.reads old Right) s place bytes → h.written new ≤ h.written old + bytes) → Ran h asked from old new (of_store fault)
    ran_unopened asks most =
        ran new (of_store fault) unopened_goes
        (λ states s all kept.
        let opened = opens_somehow (h.reads old Left) (h.reads old Right) s (stood s kept) in (
          opened.0,
          opened.1,
          opened.2,
          unopened_ends states s opened.0 opened.1 all kept (record { text = text; most = most s opened.0 opened.1 opened.2; asks = asks }),
        ))
        (λ is. absurd (store_not_done fault is))

  -- the store was opened, and lines were done from its client's state
  module _ (mid new : H) (client : Client) (phases : OpensInPhases {T = Client} h old mid (Ok client)) (opened : IsOpened h client old mid) (text : h.said mid ≡ h.said old)
      (those : List (List ℕ)) (lines_are : those ≡ lines) (result : Result (Unit {0}) RunFault) (lines_ran : LinesRan h asked (HasGateOn h client mid) (start_on f h now shelf mid those (state_of client) (end_of client)) mid new result) where
    abbrev place : ℕ
    place = end_of client

    abbrev bytes : ℕ
    bytes = opened.bytes

    -- they begin as those of the run
    ran_from : (s : ClientState) → Stood s → LinesRan h asked (HasGateOn h client mid) (from s place bytes) mid new result
    ran_from s stands =
        subst (λ (start : Start). LinesRan h asked (HasGateOn h client mid) start mid new result)
        (same_start (setting f shelf now) s (state_of client) place those lines (h.said old) (h.said mid) (h.written old + bytes) (h.written mid) (opened.known s stands) lines_are text opened.written) lines_ran

    opens_for : (s : ClientState) → Stood s → OpensWith (h.reads old Left) (h.reads old Right) s place bytes
    opens_for s stands = subst (λ (x : ClientState). OpensWith (h.reads old Left) (h.reads old Right) x place bytes) (opened.known s stands) opened.opens

    opened_goes : (s : ClientState) (other count : ℕ) → WasKept s → Goes s other count new (of_lines result)
    opened_goes s other count kept =
        let lines_met = met_weaker h.moment h.might mid new (AfterPrefix (from s place bytes)) (AfterPrefix (from s other count)) ((ran_from s (stood s kept)).moments (opened.gate s kept))
        (elsewhere (setting f shelf now) s lines (h.said old) place (h.written old + bytes) other (h.written old + count)) in
        inr (record { opened = mid; opening = opened_begins h old mid (of_lines result) client phases; third = lines_met })

    stands_after : (done : Result (Unit {0}) RunFault) → of_lines done ≡ status.Done → h.images new Left (h.reads new Left) → h.images new Right (h.reads new Right) → (s : ClientState) → LinesRan h asked (HasGateOn h client mid) (from s place bytes) mid new done
        → StandsAfter h (from s place bytes) old new
    stands_after (Ok all) is new_left new_right s line_facts = record {
      reads = line_facts.images (h.reads new Left) (h.reads new Right) new_left new_right;
      images = line_facts.images;
      text = line_facts.text;
      cost = line_facts.cost;
      kept = λ where_kept.
          let kept = line_facts.kept (elim where_kept [
            | inl before ↦ inl (opened.gate s before)
            | inr (inl migrated) ↦ inl (opened.gate_made s migrated.0 migrated.1)
            | inr (inr changes) ↦ inr changes
          ]) in
          (kept (h.reads new Left) (h.reads new Right) new_left new_right, kept);
    }
    stands_after (Err fault) is new_left new_right s line_facts = absurd (never_done fault is)

    pub ran_opened : h.images new Left (h.reads new Left) → h.images new Right (h.reads new Right) → Ran h asked from old new (of_lines result)
    ran_opened new_left new_right =
        ran new (of_lines result) opened_goes
        (λ states s all kept. (place, bytes, opens_for s (stood s kept), lines_end h asked states (from s place bytes) old new result ((ran_from s (stood s kept)).ends (opened.gate s kept))))
        (λ is s stands. (place, bytes, opens_for s stands, stands_after result is new_left new_right s (ran_from s stands)))
