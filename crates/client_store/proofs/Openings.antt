-- A store is opened: the pair is read, and its rows are migrated where that is needed.
use Rattle.std.proofs.Common.{◌≡◌, ◌⊎◌, inl, inr, ℕ, ◌+◌, ◌≤◌, Bool, true, false, List, [], ◌∷◌, length, refl, sym, ap, ◌∙◌, subst, arith, Result, Ok, Err}
use Rattle.std.specs.Prelude.{IfOk, IsTrue, IsErrOf}
use Rattle.std.proofs.lemmas.Bool.{cases_lt}
use Rattle.gate_journal.specs.Costs.{HasCost}
use Rattle.host_model.specs.declared.host.Host.{Ghosts}
use Rattle.host_model.specs.declared.side.Side.{Side}
use Rattle.host_model.specs.declared.side.Side.TheVariants.{Left, Right}
use Rattle.host_model.specs.Hosts.{NowOf, MeetsAll}
use Rattle.host_model.specs.Sides.{on}
use Rattle.host_model.proofs.Meeting.{then_met, met_weaker}
use Rattle.pair_store.specs.Moments.{StaysBelow, IsOpening, IsReadOrRepaired, EndsUnsynced}
use Rattle.pair_store.specs.Moments as sides
use Rattle.pair_store.specs.Repair.{repair_cost, IsUnwritten, IsRepaired, IsLeftByOpening}
use Rattle.pair_store.proofs.Beside.{both_sides}
use Rattle.row_batches.specs.declared.store_row.StoreRow.{StoreRow}
use Rattle.row_store.specs.Rows.{HasRows, HasPlace}
use Rattle.row_store.specs.Store.{StoredRows, RowsStand, RowsStandWithGate, place}
use Rattle.row_store.proofs.Folds.{fault_is, one_map}
use Rattle.client_state.specs.declared.client_state.ClientState.{ClientState}
use Rattle.client_state.specs.Forms.{needs_migration}
use Rattle.pair_store.specs.declared.faults.PairFault.{PairFault}
use Rattle.pair_store.specs.declared.faults.PairFault.TheVariants.{NoStore, BadStore, DiskFault, OutOfMemory}
use Rattle.client_store.specs.declared.found_store.FoundStore.{FoundStore}
use Rattle.client_store.specs.Finds.{OpenFinds}
use Rattle.client_store.specs.Migrations.{opening_bytes, place_opened, OpensWith}
use Rattle.client_store.specs.Moments.{IsLeftAs, IsLeftAmong}
use Rattle.client_store.specs.OpenStore.{AllKeptAmong}
use Rattle.client_store.specs.Openings.{IsMigrating, IsReadOrMigrating, IsLeftOrMigrating, OpensInPhases, OpensInThreePhases, OpensInTwoPhases, IsOpened, IsOnlyRepaired, OpenLeaves, IsUnopened, OpenEnds}
use Rattle.client_store.specs.Store.{StandsFor, KeptFor, KeptAmong}
use Rattle.client_store.specs.Stored.{StoredState, IsStored, IsFound}
use Rattle.client_store.proofs.Holding.{stands_of_kept, rows_settled}
use Rattle.client_store.proofs.Repairing.{repaired_kept}
use Rattle.client_store.proofs.Uniqueness.{stands_once, one_place}

not_failed : {T : Type 0} (found : T) → IsErrOf {T = T} {E = PairFault} (Ok found) DiskFault → ⊥
not_failed found is = absurd cc

-- there is a gate, or there is none
gate_or_none : {H : Type 0} (h : Ghosts H) (store : StoredRows) (host : H) → RowsStand h store host → RowsStandWithGate h store host ⊎ (RowsStandWithGate h store host → ⊥)
gate_or_none h store host stands =
    elim (cases_lt (place store) (length (h.reads host store.records.side))) [
      | inl gate ↦ inl (record { payloads = stands.payloads; pair = record { stands = stands.pair; gate = gate }; made = stands.made })
      | inr none ↦ inr (λ gated. absurd (omega (arith, none, gated.pair.gate)))
    ]

module _ {H : Type 0} (h : Ghosts H) (start : H) where
  abbrev Stands : ClientState → Type 0
  Stands s = StandsFor (h.reads start Left) (h.reads start Right) s

  abbrev Kept : ClientState → Type 0
  Kept s = KeptFor (h.reads start Left) (h.reads start Right) s

  -- ---- what is kept

  read_kept : (s : ClientState) (l r : List ℕ) → ((side : Side) → on side l r ≡ h.reads start side) → Kept s → KeptFor l r s
  read_kept s l r same kept = subst (λ (c : List ℕ). KeptFor l c s) (sym (same Right)) (subst (λ (c : List ℕ). KeptFor c (h.reads start Right) s) (sym (same Left)) kept)

  -- where what reads gave was kept for a state, it is kept for it at each moment of the second phase, and nothing is said
  pub phase_kept : (s : ClientState) → Kept s → (l r u : List ℕ) → IsReadOrMigrating h start l r u → IsLeftAs (h.said start) s l r u
  phase_kept s kept l r u (inl (inl same, text)) = (read_kept s l r same kept, text)
  phase_kept s kept l r u (inl (inr repaired, text)) = (repaired_kept h start l r repaired s kept, text)
  phase_kept s kept l r u (inr migrating) =
      let same = stands_once (h.reads start Left) (h.reads start Right) s migrating.state (stands_of_kept (h.reads start Left) (h.reads start Right) s kept) migrating.stands in
      (subst (λ (t : ClientState). KeptFor l r t) (sym same) (migrating.kept (subst Kept same kept)), migrating.text)

  among : (states : List ClientState) (l r u : List ℕ) → KeptAmong (h.reads start Left) (h.reads start Right) states → IsReadOrMigrating h start l r u → KeptAmong l r states
  among [] l r u kept met = kept
  among (s ∷ states) l r u (inl kept) met = inl (phase_kept s kept l r u met).0
  among (s ∷ states) l r u (inr kept) met = inr (among states l r u kept met)

  pub phase_text : (l r u : List ℕ) → IsReadOrMigrating h start l r u → u ≡ h.said start
  phase_text l r u (inl met) = met.1
  phase_text l r u (inr migrating) = migrating.text

  -- ---- the last two phases, seen as one

  repaired_is : (repaired : H) (l r : List ℕ) → ((side : Side) → on side l r ≡ h.reads repaired side) → IsRepaired h start (h.reads repaired Left) (h.reads repaired Right) → IsRepaired h start l r
  repaired_is repaired l r same is = subst (λ (c : List ℕ). IsRepaired h start l c) (sym (same Right)) (subst (λ (c : List ℕ). IsRepaired h start c (h.reads repaired Right)) (sym (same Left)) is)

  seen_as_read : (repaired : H) → IsLeftByOpening h start repaired → (l r u : List ℕ) → IsLeftOrMigrating h start repaired l r u → IsReadOrMigrating h start l r u
  seen_as_read repaired left l r u (inl (same, text)) = elim left.bytes [
    | inl unchanged ↦ inl (inl (λ side. same side ∙ unchanged side), text)
    | inr closed ↦ inl (inr (repaired_is repaired l r same closed.repaired), text)
  ]
  seen_as_read repaired left l r u (inr migrating) = inr migrating

  two_of_three : (new : H) → OpensInThreePhases h start new → OpensInTwoPhases h start new
  two_of_three new three = record {
    synced = three.synced;
    first = three.first;
    unwritten = three.unwritten;
    second = then_met h.moment h.might three.synced three.repaired new (IsReadOrRepaired h start) (IsLeftOrMigrating h start three.repaired) (IsReadOrMigrating h start) three.second three.third (λ l r u met. inl met)
        (seen_as_read three.repaired three.left);
  }

  two_of_sides : (new : H) → sides.OpensInTwoPhases h start new → OpensInTwoPhases h start new
  two_of_sides new both = record {
    synced = both.synced;
    first = both.first;
    unwritten = both.unwritten;
    second = met_weaker h.moment h.might both.synced new (IsReadOrRepaired h start) (IsReadOrMigrating h start) both.second (λ l r u met. inl met);
  }

  -- the disk has failed in the first phase, or there are two
  pub in_two_phases : {T : Type 0} (new : H) (result : Result T PairFault) → OpensInPhases h start new result → (IsErrOf result DiskFault × EndsUnsynced h start new) ⊎ OpensInTwoPhases h start new
  in_two_phases new result (inl (failed, inl unsynced)) = inl (failed, unsynced)
  in_two_phases new result (inl (failed, inr both)) = inr (two_of_sides new both)
  in_two_phases new result (inr three) = inr (two_of_three new three)

  module _ (read_left : h.images start Left (h.reads start Left)) (read_right : h.images start Right (h.reads start Right)) (new : H) (states : List ClientState) (all : AllKeptAmong h start states) where
    now_among : (l r u : List ℕ) → NowOf h start l r u → IsLeftAmong (h.said start) states l r u
    now_among l r u now = (all l r now.0 now.1, now.2)

    phase_among : (l r u : List ℕ) → IsReadOrMigrating h start l r u → IsLeftAmong (h.said start) states l r u
    phase_among l r u met = (among states l r u (all (h.reads start Left) (h.reads start Right) read_left read_right) met, phase_text l r u met)

    two_left : OpensInTwoPhases h start new → MeetsAll h start new (IsLeftAmong (h.said start) states)
    two_left both =
        then_met h.moment h.might start both.synced new (NowOf h start) (IsReadOrMigrating h start) (IsLeftAmong (h.said start) states) both.first both.second now_among phase_among

    -- each is kept for one of the states for which each was kept
    pub phases_left : {T : Type 0} (result : Result T PairFault) → OpensInPhases h start new result → MeetsAll h start new (IsLeftAmong (h.said start) states)
    phases_left result moments = elim (in_two_phases new result moments) [
      | inl failed ↦ met_weaker h.moment h.might start new (NowOf h start) (IsLeftAmong (h.said start) states) failed.1.moments now_among
      | inr both ↦ two_left both
    ]

  -- ---- nothing was opened

  pub unopened : (new : H) (fault : PairFault) → OpenFinds (h.reads start Left) (h.reads start Right) fault → (fault ≡ NoStore → IsUnwritten h start new) → ((fault ≡ DiskFault → ⊥) → IsLeftByOpening h start new)
      → MeetsAll h start new (IsOpening h start) → h.written new ≤ h.written start + repair_cost (h.reads start Left) (h.reads start Right) → IsUnopened h fault start new
  unopened new fault finds unwritten left moments most = record {
    finds = finds;
    leaves = leaves fault unwritten left;
    most = λ s at bytes opening. omega (arith, opening.written_is, most);
    none = λ never. only;
  }
    where
      only : IsOnlyRepaired h start new
      only = record { moments = moments; most = most }

      leaves : (given : PairFault) → (given ≡ NoStore → IsUnwritten h start new) → ((given ≡ DiskFault → ⊥) → IsLeftByOpening h start new) → OpenLeaves h start new given
      leaves NoStore none rest = none refl
      leaves BadStore none rest = (rest (λ is. absurd cc), only)
      leaves DiskFault none rest = tt
      leaves OutOfMemory none rest = (rest (λ is. absurd cc), only)

  -- the three phases, behind a reading that didn't fail
  three : (mid new : H) → sides.OpensInTwoPhases h start mid → IsLeftByOpening h start mid → MeetsAll h mid new (IsLeftOrMigrating h start mid) → OpensInThreePhases h start new
  three mid new both left third = record { synced = both.synced; first = both.first; unwritten = both.unwritten; repaired = mid; second = both.second; left = left; third = third }

  -- each image is what reads give, and stays so
  pub left_still : (mid : H) → h.said mid ≡ h.said start → IsLeftByOpening h start mid → MeetsAll h mid mid (NowOf h mid) → MeetsAll h mid mid (IsLeftOrMigrating h start mid)
  left_still mid text left still =
      met_weaker h.moment h.might mid mid (NowOf h mid) (IsLeftOrMigrating h start mid) still
      (λ l r u now. inl (both_sides (λ (side : Side). on side l r ≡ h.reads mid side) Left (left.durable Left l now.0) (left.durable Right r now.1), now.2 ∙ text))

  -- nothing was migrated
  pub reading_phases : {T U : Type 0} (new : H) (fault : PairFault) → sides.OpensInPhases {T = T} h start new (Err fault) → ((fault ≡ DiskFault → ⊥) → IsLeftByOpening h start new) → (IsLeftByOpening h start new → MeetsAll h new new (IsLeftOrMigrating h start new))
      → OpensInPhases {T = U} h start new (Err fault)
  reading_phases {T} new fault (inl failed) left still = inl (ap Err (fault_is {T = T} fault DiskFault failed.0), inl failed.1)
  reading_phases new NoStore (inr both) left still = let is = left (λ is. absurd cc) in inr (three new new both is (still is))
  reading_phases new BadStore (inr both) left still = let is = left (λ is. absurd cc) in inr (three new new both is (still is))
  reading_phases new DiskFault (inr both) left still = inl (refl, inr both)
  reading_phases new OutOfMemory (inr both) left still = let is = left (λ is. absurd cc) in inr (three new new both is (still is))

  -- ---- what was found

  module _ (found : FoundStore) (is : IsFound found) (rows : HasRows (h.reads start Left) (h.reads start Right) found.rows.rows) where
    abbrev migrates : Bool
    migrates = needs_migration found.rows.rows

    pub found_stands : Stands found.state
    found_stands = record { sound = is.sound; stored = found.rows.rows; form = is.form; rows = rows }

    found_known : (s : ClientState) → Stands s → found.state ≡ s
    found_known s stands = stands_once (h.reads start Left) (h.reads start Right) found.state s found_stands stands

    found_rows : (s : ClientState) (stands : Stands s) → stands.stored ≡ found.rows.rows
    found_rows s stands = one_map (h.reads start Left) (h.reads start Right) stands.stored found.rows.rows stands.rows rows

    -- what is written of it
    module _ (began : HasPlace (h.reads start Left) (h.reads start Right) (place found.rows)) where
      abbrev cost : ℕ
      cost = opening_bytes migrates (place found.rows) found.state

      abbrev repair : ℕ
      repair = repair_cost (h.reads start Left) (h.reads start Right)

      opens : (t : ClientState) (at : ℕ) → t ≡ found.state → at ≡ place_opened migrates (place found.rows) found.state → OpensWith (h.reads start Left) (h.reads start Right) t at (repair + cost)
      unfolding found_stands
      opens t at same placed =
          subst (λ (s : ClientState). OpensWith (h.reads start Left) (h.reads start Right) s at (repair + cost)) (sym same)
          (record { stands = found_stands; before = place found.rows; began = began; place_is = placed; written_is = refl })

      bytes_are : (s : ClientState) (at bytes : ℕ) → OpensWith (h.reads start Left) (h.reads start Right) s at bytes → bytes ≡ repair + cost
      bytes_are s at bytes opening =
          opening.written_is
          ∙ ap (λ (those : List StoreRow). repair + opening_bytes (needs_migration those) opening.before s) (found_rows s opening.stands)
          ∙ ap (λ (at_first : ℕ). repair + opening_bytes migrates at_first s) (one_place (h.reads start Left) (h.reads start Right) opening.before (place found.rows) opening.began began)
          ∙ ap (λ (t : ClientState). repair + opening_bytes migrates (place found.rows) t) (sym (found_known s opening.stands))

      -- ---- and migrated

      module _ (mid new : H) (text : h.said mid ≡ h.said start) (reading : sides.OpensInPhases {T = FoundStore} h start mid (Ok found)) (stands : RowsStand h found.rows mid) (gate : (s : ClientState) → Kept s → RowsStandWithGate h found.rows mid) (unneeded : (IsTrue migrates → ⊥) → new ≡ mid)
          (moments : RowsStandWithGate h found.rows mid → MeetsAll h mid new (IsLeftAs (h.said mid) found.state)) (below : MeetsAll h mid new (StaysBelow h mid)) (left : IsLeftByOpening h start mid) (still : MeetsAll h mid mid (NowOf h mid)) where
        migrating : IsTrue migrates → MeetsAll h mid new (IsMigrating h start)
        unfolding found_stands
        migrating old =
            elim (gate_or_none h found.rows mid stands) [
              | inl gated ↦
                  met_weaker h.moment h.might mid new _ (IsMigrating h start) (moments gated)
                  (λ l r u met. record { state = found.state; stands = found_stands; old = old; kept = λ kept. met.0; text = met.1 ∙ text })
              | inr none ↦
                  met_weaker h.moment h.might mid new _ (IsMigrating h start) below
                  (λ l r u met. record { state = found.state; stands = found_stands; old = old; kept = λ kept. absurd (none (gate found.state kept)); text = met.1 ∙ text })
            ]

        third : (needed : Bool) → migrates ≡ needed → MeetsAll h mid new (IsLeftOrMigrating h start mid)
        third true needed = met_weaker h.moment h.might mid new (IsMigrating h start) (IsLeftOrMigrating h start mid) (migrating needed) (λ l r u met. inr met)
        third false needed = subst (λ (host : H). MeetsAll h mid host (IsLeftOrMigrating h start mid)) (sym (unneeded (λ is_needed. absurd cc))) (left_still mid text left still)

        -- all phases were gone through
        pub phases : {T : Type 0} (result : Result T PairFault) → OpensInPhases h start new result
        phases result =
            elim reading [
              | inl failed ↦ absurd (not_failed found failed.0)
              | inr both ↦ inr (three mid new both left (third migrates refl))
            ]

      module _ (mid new : H) (read : h.written mid ≡ h.written start + repair) where
        -- the store is open
        opened : (store : StoredState) → IsStored store → store.state ≡ found.state → RowsStand h store.rows new → ((s : ClientState) → Kept s → RowsStandWithGate h store.rows new)
            → (IsTrue migrates → RowsStandWithGate h store.rows new) → place store.rows ≡ place_opened migrates (place found.rows) found.state → h.written new ≡ h.written mid + cost → IsOpened h store start new
        opened store stored same stands gate gate_made placed wrote = record {
          stands = subst Stands (sym same) found_stands;
          known = λ s found_as. same ∙ found_known s found_as;
          open_on = record { stored = stored; stands = stands };
          settled = rows_settled h store.rows new stands;
          gate = gate;
          gate_made = λ s found_as old. gate_made (subst (λ (those : List StoreRow). IsTrue (needs_migration those)) (found_rows s found_as) old);
          bytes = repair + cost;
          opens = opens store.state (place store.rows) same placed;
          written = omega (arith, read, wrote);
        }

        -- it is not migrated
        unmigrated : (fault : PairFault) → (fault ≡ NoStore → ⊥) → (fault ≡ BadStore → ⊥) → (fault ≡ OutOfMemory → new ≡ mid) → IsLeftByOpening h start mid → MeetsAll h start mid (IsOpening h start)
            → h.written new ≤ h.written mid + cost → IsUnopened h fault start new
        unmigrated fault no_store bad_store memory left moments wrote = record {
          finds = finds fault no_store bad_store;
          leaves = leaves fault no_store bad_store memory;
          most = λ s at bytes opening. let is = bytes_are s at bytes opening in omega (arith, is, read, wrote);
          none = λ never. absurd (never found.state found_stands);
        }
          where
            finds : (given : PairFault) → (given ≡ NoStore → ⊥) → (given ≡ BadStore → ⊥) → OpenFinds (h.reads start Left) (h.reads start Right) given
            finds NoStore absent bad = absurd (absent refl)
            finds BadStore absent bad = absurd (bad refl)
            finds DiskFault absent bad = tt
            finds OutOfMemory absent bad = tt

            leaves : (given : PairFault) → (given ≡ NoStore → ⊥) → (given ≡ BadStore → ⊥) → (given ≡ OutOfMemory → new ≡ mid) → OpenLeaves h start new given
            leaves NoStore absent bad same = absurd (absent refl)
            leaves BadStore absent bad same = absurd (bad refl)
            leaves DiskFault absent bad same = tt
            leaves OutOfMemory absent bad same =
                subst (λ (host : H). IsLeftByOpening h start host × IsOnlyRepaired h start host) (sym (same refl)) (left, record { moments = moments; most = omega (arith, read) })

        -- what stands at the end, by the answer
        pub migrated_ends : (result : Result StoredState PairFault) → IfOk result IsStored → IfOk result (λ store. store.state ≡ found.state) → IfOk result (λ store. RowsStand h store.rows new)
            → IfOk result (λ store. RowsStandWithGate h found.rows mid → RowsStandWithGate h store.rows new) → IfOk result (λ store. IsTrue migrates → RowsStandWithGate h store.rows new)
            → IfOk result (λ store. place store.rows ≡ place_opened migrates (place found.rows) found.state) → HasCost cost (h.written mid) (h.written new) result
            → (IsErrOf result NoStore → ⊥) × (IsErrOf result BadStore → ⊥) → (IsErrOf result OutOfMemory → new ≡ mid)
            → ((s : ClientState) → Kept s → RowsStandWithGate h found.rows mid) → IsLeftByOpening h start mid → MeetsAll h start mid (IsOpening h start) → OpenEnds h start new result
        migrated_ends (Ok store) stored same stands gate gate_made placed wrote no_other memory gated left moments = opened store stored same stands (λ s kept. gate (gated s kept)) gate_made placed wrote.exact
        migrated_ends (Err fault) stored same stands gate gate_made placed wrote no_other memory gated left moments =
            unmigrated fault (λ is. no_other.0 (ap Err is)) (λ is. no_other.1 (ap Err is)) (λ is. memory (ap Err is)) left moments wrote.most
