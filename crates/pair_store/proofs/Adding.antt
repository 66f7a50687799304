-- A payload more, on the side that counts.
use Rattle.std.proofs.Common.{◌≡◌, inl, inr, ◌<◌, ℕ, List, [], ◌∷◌, ◌++◌, length, sym, ◌∙◌, ap, subst, arith, length-append}
use Rattle.host_model.specs.declared.host.Host.{Ghosts}
use Rattle.host_model.specs.declared.side.Side.{Side}
use Rattle.host_model.specs.Hosts.{IsDurable, KeepsAll, MeetsAll, OnSideOf}
use Rattle.host_model.specs.Sides.{other, on}
use Rattle.host_model.proofs.Meeting.{met_weaker}
use Rattle.gate_journal.specs.Journal.{StandsWithGate, IsBeforeOrAfter}
use Rattle.gate_journal.specs.OpenSide.{OpenSide}
use Rattle.gate_journal.specs.Records.{IsKept, IsShut}
use Rattle.pair_store.specs.Moments.{KeepsEither}
use Rattle.pair_store.specs.Pair.{HasKeptList}
use Rattle.pair_store.specs.Store.{PairStands, PairStandsWithGate}

-- a side that is kept for payloads, beside a closed one
pub kept_list : (l r : List ℕ) (side : Side) (generation : ℕ) (payloads : List (List ℕ)) → 0 < length payloads → IsKept generation payloads (on side l r) → IsShut (on (other side) l r) → HasKeptList l r payloads
kept_list l r side generation payloads some kept shut = (side, record { generation = generation; side = kept.side; some = some; rest = inl shut }, kept.gate)

module _ {H : Type 0} (h : Ghosts H) (journal now : OpenSide) (seen : journal ≡ now) (start new : H) (payloads : List (List ℕ)) (next : List ℕ) where
  more : 0 < length (payloads ++ next ∷ [])
  more = omega (arith, length-append payloads (next ∷ []))

  pub append_met : PairStandsWithGate h now start payloads
      → ((list : List (List ℕ)) → StandsWithGate h journal start list → MeetsAll h start new (OnSideOf h start journal.side (IsBeforeOrAfter journal.generation list next)))
      → MeetsAll h start new (KeepsEither h start payloads (payloads ++ next ∷ []))
  append_met gated_now run =
      let gated = subst (λ (j : OpenSide). PairStandsWithGate h j start payloads) (sym seen) gated_now in
      let stands = gated.stands in
      let side = journal.side in
      met_weaker h.moment h.might start new _ _ (run payloads (record { stands = stands.side; gate = gated.gate })) (λ l r u met.
      let shut : IsShut (on (other side) l r) = subst IsShut (sym (stands.only (on (other side) l r) met.1)) stands.shut in (
        elim met.0 [
          | inl before ↦ inl (kept_list l r side journal.generation payloads stands.some before shut)
          | inr after ↦ inr (kept_list l r side journal.generation (payloads ++ next ∷ []) more after shut)
        ],
        met.2,
      ))

  pub append_done : (after : OpenSide) → after.side ≡ journal.side → PairStands h now start payloads → StandsWithGate h after new (payloads ++ next ∷ []) → KeepsAll h (other journal.side) start new
      → PairStandsWithGate h after new (payloads ++ next ∷ [])
  append_done after same stands_now done rest =
      let stands = subst (λ (j : OpenSide). PairStands h j start payloads) (sym seen) stands_now in
      let there : other after.side ≡ other journal.side = ap other same in
      record {
        stands = record {
          side = done.stands;
          some = more;
          shut = subst (λ (s : Side). IsShut (h.reads new s)) (sym there) (subst IsShut (sym rest.reads_same) stands.shut);
          only = subst (λ (s : Side). IsDurable h new s) (sym there) (λ c left. stands.only c ((rest.images_same c).0 left) ∙ sym rest.reads_same);
        };
        gate = done.gate;
      }
