-- What a run leaves is a link of a chain, and the premise of the next run.
use Rattle.std.proofs.Common.{◌≡◌, ◌∙◌, inl, inr, ⊎_elim, ℕ, List, [], ◌∷◌, refl, sym, subst, Result, Ok, Err}
use Rattle.std.specs.Prelude.{IsErrOf}
use Rattle.host_model.specs.declared.side.Side.TheVariants.{Left, Right}
use Rattle.host_model.specs.declared.host.Host.{Ghosts}
use Rattle.host_model.specs.Hosts.{NowOf}
use Rattle.client_state.specs.declared.client_state.ClientState.{ClientState}
use Rattle.client_core.specs.declared.client.Client.{Client}
use Rattle.client_core.specs.Clients.{state_of, HasGateOn}
use Rattle.client_store.specs.OpenStore.{AllKept, AllKeptAmong}
use Rattle.client_store.specs.Store.{KeptFor, KeptAmong}
use Rattle.session_run.specs.declared.faults.RunFault.{RunFault}
use Rattle.session_run.specs.declared.faults.RunFault.TheVariants as run
use Rattle.session_run.specs.declared.status.RunStatus.{RunStatus}
use Rattle.session_run.specs.declared.status.RunStatus.TheVariants.{DiskFault}
use Rattle.session_run.specs.Chains.{IsLinked, MomentsAreLinks}
use Rattle.session_run.specs.Ends.{LineEnds}
use Rattle.session_run.specs.Later.{RanSomehow, KeepsSome, MayGoOn}
use Rattle.session_run.specs.Moments.{AfterPrefix}
use Rattle.session_run.specs.Starts.{Start}
use Rattle.session_run.proofs.Running.{some_at_start}

pub moments_are_links : MomentsAreLinks
moments_are_links start old_l old_r l r u kept met = record { s = start.state; within = met.within; from = kept; left = met.kept }

-- the state among some for which a pair is kept
pub the_one : (l r : List ℕ) (states : List ClientState) → KeptAmong l r states → (s : ClientState) × KeptFor l r s
the_one l r [] among = absurd among
the_one l r (s ∷ states) (inl kept) = (s, kept)
the_one l r (s ∷ states) (inr among) = the_one l r states among

module _ {H : Type 0} (h : Ghosts H) where
  -- a start over a list of one state
  pub among_one : (host : H) (s : ClientState) → AllKept h host s → AllKeptAmong h host (s ∷ [])
  among_one host s all l r left right = inl (all l r left right)

  pub one_among : (host : H) (s : ClientState) → AllKeptAmong h host (s ∷ []) → AllKept h host s
  one_among host s all l r left right = ⊎_elim (λ kept. kept) (λ none. absurd none) (all l r left right)

  -- ---- links

  module _ (old : H) (start : Start) where
    -- no line is done, from an image of the start
    pub linked_now : h.said old ≡ start.said → (states : List ClientState) → AllKeptAmong h old states → (l r u : List ℕ) → NowOf h old l r u → IsLinked h old start l r u
    linked_now said states all l r u now =
        let one = the_one l r states (all l r now.0 now.1) in
        record {
          old_l = l;
          old_r = r;
          left = now.0;
          right = now.1;
          s = one.0;
          from = one.1;
          met = some_at_start start.at one.0 start.place start.lines start.said start.written l r u one.1 (now.2 ∙ said);
        }

    -- some lines are done, from what reads gave
    pub linked_from : h.images old Left (h.reads old Left) → h.images old Right (h.reads old Right) → KeptFor (h.reads old Left) (h.reads old Right) start.state → (l r u : List ℕ) → AfterPrefix start l r u → IsLinked h old start l r u
    linked_from left right kept l r u met = record { old_l = h.reads old Left; old_r = h.reads old Right; left = left; right = right; s = start.state; from = kept; met = met }

  -- ---- the next run

  line_keeps : (s t : ClientState) (text said : List ℕ) (host : H) (result : Result (Unit {0}) RunFault) → LineEnds h s t text said host result → KeepsSome h (IsErrOf result run.DiskFault) host
  line_keeps s t text said host (Ok done) ends = record { some = (t ∷ [], among_one host t ends.0); one = λ not. (t, ends.0) }
  line_keeps s t text said host (Err run.ShelfFault) ends = record { some = (s ∷ [], among_one host s ends.0); one = λ not. (s, ends.0) }
  line_keeps s t text said host (Err run.OutOfMemory) ends = record { some = (s ∷ [], among_one host s ends.0); one = λ not. (s, ends.0) }
  line_keeps s t text said host (Err run.DiskFault) (changed, either, same) = record {
    some = (s ∷ t ∷ [], λ l r left right. ⊎_elim (λ kept. inl kept) (λ kept. inr (inl kept)) (either l r left right));
    one = λ not. absurd (not refl);
  }
  line_keeps s t text said host (Err run.SayFault) (some, kept, part) = record { some = (t ∷ [], among_one host t kept); one = λ not. (t, kept) }

  -- a line that isn't done ends the run
  pub keeps_ended : (client : Client) (old new : H) (fault : RunFault) → HasGateOn h client old → RanSomehow {T = Unit {0}} h client old new (Err fault) → (result : Result (Unit {0}) RunFault) → result ≡ Err fault → KeepsSome h (IsErrOf result run.DiskFault) new
  keeps_ended client old new fault gate (t, (text, ran)) result is =
      subst (λ (r : Result (Unit {0}) RunFault). KeepsSome h (IsErrOf r run.DiskFault) new) (sym is) (line_keeps (state_of client) t text (h.said old) new (Err fault) (ran.ends gate))

  -- all lines are done
  pub keeps_done : (host : H) (failed : Type 0) (s : ClientState) → AllKept h host s → KeepsSome h failed host
  keeps_done host failed s all = record { some = (s ∷ [], among_one host s all); one = λ not. (s, all) }

  module _ (old new : H) (status : RunStatus) where
    -- lines were done from what reads gave
    pub goes_on_from : h.images old Left (h.reads old Left) → h.images old Right (h.reads old Right) → (failed : Type 0) → (failed → status ≡ DiskFault) → ((s : ClientState) → KeptFor (h.reads old Left) (h.reads old Right) s → KeepsSome h failed new) → MayGoOn h old new status
    goes_on_from left right failed is keeps = record {
      next = λ states all. let one = the_one (h.reads old Left) (h.reads old Right) states (all (h.reads old Left) (h.reads old Right) left right) in (keeps one.0 one.1).some;
      next_one = λ s all other. (keeps s (all (h.reads old Left) (h.reads old Right) left right)).one (λ fault. other (is fault));
    }

    -- no line was done
    pub goes_on_as : ((states : List ClientState) → AllKeptAmong h old states → AllKeptAmong h new states) → MayGoOn h old new status
    goes_on_as stays = record { next = λ states all. (states, stays states all); next_one = λ s all other. (s, one_among new s (stays (s ∷ []) (among_one old s all))) }
