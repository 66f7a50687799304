-- A store is made, and then its answer is said, whole or in part.
use Rattle.std.proofs.Common.{◌≡◌, ◌⊎◌, inl, inr, ⊎_elim, ℕ, List, sym, ap, ◌∙◌, subst, arith, Ok, Err}
use Rattle.host_model.specs.declared.side.Side.{Side}
use Rattle.host_model.specs.declared.side.Side.TheVariants.{Left, Right}
use Rattle.host_model.specs.declared.host.Host.{Ghosts}
use Rattle.host_model.specs.Hosts.{MeetsAll, NowOf}
use Rattle.host_model.specs.Moments.{IsSaying, Elapses, KeepsSide}
use Rattle.host_model.specs.Sides.{on}
use Rattle.host_model.proofs.Meeting.{started, goes_on}
use Rattle.pair_store.specs.Moments.{OpensInTwoPhases}
use Rattle.row_store.specs.Rows.{HasRows, HasPlace}
use Rattle.client_state.specs.declared.client_state.ClientState.{ClientState}
use Rattle.client_store.specs.declared.faults.MakeFault.{MakeFault}
use Rattle.client_store.specs.declared.faults.MakeFault.TheVariants as make
use Rattle.client_store.specs.Makings.{MakesInPhases, MakePhases}
use Rattle.client_store.specs.NewStates.{fresh}
use Rattle.client_state.specs.Encoding.{rows_of}
use Rattle.client_store.specs.Moments.{IsQuiet}
use Rattle.client_store.specs.OpenStore.{AllKept, AreDurable}
use Rattle.client_store.specs.Places.{place_made}
use Rattle.client_store.specs.Store.{IsAbsent}
use Rattle.client_store.proofs.Refusing.{among_not_absent}
use Rattle.session_run.specs.declared.status.RunStatus.{RunStatus}
use Rattle.session_run.specs.declared.status.RunStatus.TheVariants.{OutOfMemory}
use Rattle.session_run.specs.Making.{ready, DuringMaking, IsAsRead, IsNewStore, MakesOn, MakingEnds, Made}
use Rattle.session_run.specs.Statuses.{of_making}
use Rattle.session_run.specs.Writes.{IsBelowMark}
use Rattle.session_run.proofs.Beginning.{said_met}
use Rattle.session_run.proofs.Causing.{make_fault_is}

module _ {H : Type 0} (h : Ghosts H) (s : ClientState) (old new : H) where
  -- the phases of a making that has made the store
  pub made_phases : (done : Unit {0}) → MakePhases {T = Unit {0}} h s old new (Ok done) → MakesInPhases h s old new ⊎ OpensInTwoPhases h old new
  made_phases done (inl making) = inl making
  made_phases done (inr (inl opening)) = inr opening
  made_phases done (inr (inr (inl (is, ends)))) = absurd cc
  made_phases done (inr (inr (inr (is, same)))) = absurd cc

  -- and of one that hasn't
  pub unmade_phases : (fault : MakeFault) → MakePhases {T = Unit {0}} h s old new (Err fault) → MakesOn h s old new (of_making fault)
  unmade_phases fault (inl making) = inl making
  unmade_phases fault (inr (inl opening)) = inr (inl opening)
  unmade_phases fault (inr (inr (inl (is, ends)))) = inr (inr (inl (ap of_making (make_fault_is fault make.DiskFault is), ends)))
  unmade_phases fault (inr (inr (inr (is, same)))) = inr (inr (inr (ap of_making (make_fault_is fault make.OutOfMemory is), same)))

-- what is known of a store that was made for this id
pub record IsMade {H : Type 0} (h : Ghosts H) (old mid : H) (id : List ℕ) (now : ℕ) : Type 0 where
  pub kept : AllKept h mid (fresh id now)
  pub store : IsNewStore h id now old mid
  pub settled : AreDurable h mid
  pub phases : MakesInPhases h (fresh id now) old mid ⊎ OpensInTwoPhases h old mid

module _ {H : Type 0} (h : Ghosts H) (old mid new : H) (id text : List ℕ) (now : ℕ) (is_ready : text ≡ ready id) (absent : IsAbsent (h.reads old Left) (h.reads old Right)) (left : h.images old Left (h.reads old Left)) (right : h.images old Right (h.reads old Right))
    (made : IsMade h old mid id now) (quiet : MeetsAll h old mid (IsQuiet (h.said old))) (same : h.said mid ≡ h.said old) (still : (side : Side) → KeepsSide h.reads h.images side mid new) (written : h.written new ≡ h.written mid)
    (time : Elapses (h.moment mid) (h.moment new) (h.might mid) (h.might new) (IsSaying (h.images new) (h.said mid) text)) (below : MeetsAll h old new (IsBelowMark h old))
    (only : (l r u : List ℕ) → h.might mid (h.moment mid) l r u → NowOf h mid l r u) where
  -- what holds of what reads gave at mid holds of what they give
  read_as : (P : List ℕ → List ℕ → Type 0) → P (h.reads mid Left) (h.reads mid Right) → P (h.reads new Left) (h.reads new Right)
  read_as P fact = subst (λ (c : List ℕ). P c (h.reads new Right)) (sym (still Left).reads_same) (subst (P (h.reads mid Left)) (sym (still Right).reads_same) fact)

  as_read : (l r : List ℕ) → h.images mid Left l → h.images mid Right r → (side : Side) → on side l r ≡ h.reads mid side
  as_read l r left_image right_image Left = made.settled Left l left_image
  as_read l r left_image right_image Right = made.settled Right r right_image

  says : MeetsAll h mid new (IsAsRead h mid)
  says =
      goes_on h.moment h.might mid mid new (IsAsRead h mid) _
      (started h.moment h.might mid (IsAsRead h mid) (λ l r u met. let there = only l r u met in as_read l r there.0 there.1)) time
      (λ l r u saying. as_read l r (((still Left).images_same l).0 saying.0) (((still Right).images_same r).0 saying.1))

  pub made_said : (status : RunStatus) → MakingEnds h (fresh id now) (ready id) (h.said old) new status → ¬ (status ≡ OutOfMemory) → Made h id now old new status
  made_said status ends other = record {
    moments = subst (λ (u : List ℕ). MeetsAll h old new (DuringMaking (h.said old) (fresh id now) u)) is_ready (said_met h old mid new (fresh id now) text still made.kept quiet same time);
    phases = record { made = mid; making = ⊎_elim (λ making. inl making) (λ opening. inr (inl opening)) made.phases; says = inr says };
    ends = ends;
    left = λ states all. absurd (among_not_absent (h.reads old Left) (h.reads old Right) states (all (h.reads old Left) (h.reads old Right) left right) absent);
    memory = λ is. absurd (other is);
    store = λ is. record {
      encoded = read_as (λ (l r : List ℕ). HasRows l r (rows_of (fresh id now))) made.store.encoded;
      placed = read_as (λ (l r : List ℕ). HasPlace l r (place_made (fresh id now))) made.store.placed;
      journal = (still Left).reads_same ∙ made.store.journal;
      closed = (still Right).reads_same ∙ made.store.closed;
      cost = written ∙ made.store.cost;
    };
    most = λ is. omega (arith, written, made.store.cost);
    below = below;
  }
