-- The phases in which both sides are synced and read.
use Rattle.std.proofs.Common.{◌≡◌, inl, inr, ℕ, List, Result, IsErrOf, sym, ◌∙◌, subst}
use Rattle.host_model.specs.declared.host.Host.{Ghosts}
use Rattle.host_model.specs.declared.side.Side.{Side}
use Rattle.host_model.specs.declared.side.Side.TheVariants.{Left, Right}
use Rattle.host_model.specs.Hosts.{IsDurable, KeepsAll, MeetsAll, NowOf, StillAll}
use Rattle.host_model.specs.Sides.{on}
use Rattle.host_model.proofs.Meeting.{met_weaker, then_met}
use Rattle.gate_journal.specs.declared.faults.OpenFault.{OpenFault}
use Rattle.gate_journal.specs.declared.faults.OpenFault.TheVariants as journal
use Rattle.gate_journal.specs.Opening.{IsSettledOn, IsSynced, IsUnsynced, SyncsAndReads}
use Rattle.gate_journal.specs.Opening as side_phases
use Rattle.pair_store.specs.declared.faults.PairFault.{PairFault}
use Rattle.pair_store.specs.declared.faults.PairFault.TheVariants.{DiskFault}
use Rattle.pair_store.specs.Moments.{EndsUnsynced, OpensInPhases, ReadsBoth, ReadsInPhases, ReadsSide}
use Rattle.pair_store.proofs.Beside.{both_sides}

module _ {H : Type 0} (h : Ghosts H) where
  -- a call behind them that changes nothing
  pub then_still : (side : Side) (start mid new : H) → SyncsAndReads h side start mid → StillAll h mid new → MeetsAll h mid new (NowOf h mid) → SyncsAndReads h side start new
  then_still side start mid new read still run = record {
    synced = read.synced;
    first = read.first;
    second = then_met h.moment h.might read.synced mid new _ _ _ read.second run (λ l r u now. now)
        (λ l r u now. ((read.still.images_same Left l).0 now.0, (read.still.images_same Right r).0 now.1, now.2 ∙ read.still.text));
    still = record {
      reads_same = λ s. still.reads_same s ∙ read.still.reads_same s;
      images_same = λ s c. (λ left. (read.still.images_same s c).0 ((still.images_same s c).0 left), λ left. (still.images_same s c).1 ((read.still.images_same s c).1 left));
      text = still.text ∙ read.still.text;
      cost = still.cost ∙ read.still.cost;
    };
  }

  -- what is left of a side that was synced and read
  pub settled : (side : Side) (start new : H) → SyncsAndReads h side start new → IsSettledOn h side start new
  settled side start new read = record {
    same = read.still.reads_same side ∙ read.first.settled.same;
    durable = λ c left. read.first.settled.durable c ((read.still.images_same side c).0 left) ∙ sym (read.still.reads_same side);
  }

  -- by the journal's answer
  pub side_read : {T U : Type 0} (side : Side) (start new : H) (opened : Result T OpenFault) (result : Result U PairFault) → (IsErrOf opened journal.DiskFault → IsErrOf result DiskFault)
      → side_phases.OpensInPhases h side start new opened → ReadsSide h side start new result
  side_read side start new opened result passed (inl ended) = inl (passed ended.0, ended.1)
  side_read side start new opened result passed (inr read) = inr read

  -- where it is another one than a fault of the disk, both are done
  pub synced_and_read : {T : Type 0} (side : Side) (start new : H) (opened : Result T OpenFault) → (IsErrOf opened journal.DiskFault → ⊥) → side_phases.OpensInPhases h side start new opened → SyncsAndReads h side start new
  synced_and_read side start new opened other (inl ended) = absurd (other ended.0)
  synced_and_read side start new opened other (inr read) = read

  -- the disk has failed on the left side
  pub left_failed : {T U : Type 0} (start new : H) (found : Result T PairFault) (result : Result U PairFault) → IsErrOf result DiskFault → MeetsAll h start new (NowOf h start)
      → h.written new ≡ h.written start → KeepsAll h Right start new → ReadsSide h Left start new found → ReadsInPhases h start new result
  left_failed start new found result failed run cost kept (inl ended) = inl (
    failed,
    record { moments = run; cost = cost; unsynced = Left; here = ended.1.images; there = inl (λ c. kept.images_same c) },
  )
  left_failed start new found result failed run cost kept (inr read) = inl (
    failed,
    record { moments = run; cost = cost; unsynced = Right; here = λ c. kept.images_same c; there = inr (settled Left start new read) },
  )

  -- the left side is synced and read, and then the right one
  module _ (start mid new : H) (image : h.images start Left (h.reads start Left)) (was : IsSettledOn h Left start mid) (kept : KeepsAll h Right start mid)
      (run : MeetsAll h start mid (NowOf h start)) (cost : h.written mid ≡ h.written start) where
    still_start : (l r u : List ℕ) → NowOf h mid l r u → NowOf h start l r u
    still_start l r u now = (subst (h.images start Left) (sym (was.durable l now.0 ∙ was.same)) image, (kept.images_same r).0 now.1, now.2 ∙ kept.text)

    -- the disk has failed before the right one was synced
    pub right_unsynced : h.written new ≡ h.written mid → KeepsAll h Left mid new → IsUnsynced h Right mid new → EndsUnsynced h start new
    right_unsynced more back unsynced = record {
      moments = then_met h.moment h.might start mid new _ _ _ run unsynced.moments (λ l r u now. now) still_start;
      cost = more ∙ cost;
      unsynced = Right;
      here = λ c. (λ left. (kept.images_same c).0 ((unsynced.images c).0 left), λ left. (unsynced.images c).1 ((kept.images_same c).1 left));
      there = inr (record { same = back.reads_same ∙ was.same; durable = λ c left. was.durable c ((back.images_same c).0 left) ∙ sym back.reads_same });
    }

    -- both are synced
    pub both_synced : (synced : H) → IsSynced h Right mid synced → MeetsAll h synced new (NowOf h synced) → ReadsBoth h start new
    both_synced synced first second = record {
      synced = synced;
      first = then_met h.moment h.might start mid synced _ _ _ run first.moments (λ l r u now. now) still_start;
      unwritten = record {
        same = both_sides (λ s. h.reads synced s ≡ h.reads start s) Left (first.rest.reads_same ∙ was.same) (first.settled.same ∙ kept.reads_same);
        durable = both_sides (λ s. IsDurable h synced s) Left (λ c left. was.durable c ((first.rest.images_same c).0 left) ∙ sym first.rest.reads_same) first.settled.durable;
        cost = first.cost ∙ cost;
      };
      text = first.rest.text ∙ kept.text;
      second = second;
    }

    pub right_read : {T U : Type 0} (found : Result T PairFault) (result : Result U PairFault) → (IsErrOf found DiskFault → IsErrOf result DiskFault)
        → h.written new ≡ h.written mid → KeepsAll h Left mid new → ReadsSide h Right mid new found → ReadsInPhases h start new result
    right_read found result passed more back (inl ended) = inl (passed ended.0, right_unsynced more back ended.1)
    right_read found result passed more back (inr read) = inr (both_synced read.synced read.first read.second)

  -- and then nothing is written
  pub reading_phases : {T U : Type 0} (start new : H) (found : Result T PairFault) (result : Result U PairFault) → (IsErrOf found DiskFault → IsErrOf result DiskFault)
      → ReadsInPhases h start new found → OpensInPhases h start new result
  reading_phases start new found result passed (inl ended) = inl (passed ended.0, ended.1)
  reading_phases start new found result passed (inr read) = inr (record {
    synced = read.synced;
    first = read.first;
    unwritten = read.unwritten;
    second = met_weaker h.moment h.might read.synced new _ _ read.second (λ l r u now. (
      inl (both_sides (λ s. on s l r ≡ h.reads start s) Left (read.unwritten.durable Left l now.0 ∙ read.unwritten.same Left) (read.unwritten.durable Right r now.1 ∙ read.unwritten.same Right)),
      now.2 ∙ read.text,
    ));
  })
