-- A store whose rows are encoded is opened without a migration, and without a repair where its right side is closed.
use Rattle.std.proofs.Common.{◌≡◌, ℕ, ◌+◌, List, ◌∷◌, Bool, true, false, if◌then◌else◌, refl, sym, ◌∙◌, ap, subst, arith}
use Rattle.host_model.specs.declared.host.Host.{Ghosts}
use Rattle.pair_store.specs.Repair.{starts_open, repair_cost}
use Rattle.row_store.specs.Rows.{HasRows, HasPlace}
use Rattle.row_store.proofs.Folds.{one_map}
use Rattle.client_state.specs.declared.client_state.ClientState.{ClientState}
use Rattle.client_state.specs.Forms.{needs_migration}
use Rattle.client_state.specs.Encoding.{rows_of}
use Rattle.client_state.proofs.Forms.{encoded_is_new}
use Rattle.client_store.specs.Migrations.{OpensWith, place_opened, opening_bytes}
use Rattle.client_store.proofs.Uniqueness.{one_place}
use Rattle.session_run.specs.declared.status.RunStatus.{RunStatus}
use Rattle.session_run.specs.Ends.{RunEnds}
use Rattle.session_run.specs.Starts.{Start}

abbrev cost_beside : Bool → List ℕ → ℕ
cost_beside both r = if both then (if starts_open r then 1 else 0) else 0

none_beside : (both : Bool) (rest : List ℕ) → cost_beside both (0 ∷ rest) ≡ 0
none_beside true rest = refl
none_beside false rest = refl

-- a closed right side is not repaired
pub closed_cost : (l r rest : List ℕ) → r ≡ 0 ∷ rest → repair_cost l r ≡ 0
closed_cost l r rest closed = ap (repair_cost l) closed ∙ none_beside (starts_open l) rest

module _ (l r : List ℕ) (s : ClientState) (rows : HasRows l r (rows_of s)) (at : ℕ) (placed : HasPlace l r at) (unrepaired : repair_cost l r ≡ 0) where
  module _ (place bytes : ℕ) (opens : OpensWith l r s place bytes) where
    stays : needs_migration opens.stands.stored ≡ false
    stays = ap needs_migration (one_map l r opens.stands.stored (rows_of s) opens.stands.rows rows) ∙ encoded_is_new s

    encoded_place : place ≡ at
    encoded_place = one_place l r place at (subst (HasPlace l r) (sym (opens.place_is ∙ ap (λ (b : Bool). place_opened b opens.before s) stays)) opens.began) placed

    encoded_bytes : (written : ℕ) → written + bytes ≡ written
    encoded_bytes written = let none = opens.written_is ∙ ap (λ (b : Bool). repair_cost l r + opening_bytes b opens.before s) stays in omega (arith, none, unrepaired)

  -- how its run ended
  pub encoded_ends : {H : Type 0} (h : Ghosts H) (asked : List (List ℕ) → Type 0) (begin : ℕ → ℕ → Start) (written : ℕ) (states : List ClientState) (old new : H) (status : RunStatus)
      → (place bytes : ℕ) × OpensWith l r s place bytes × RunEnds h asked states (begin place (written + bytes)) old new status → RunEnds h asked states (begin at written) old new status
  encoded_ends h asked begin written states old new status (place, bytes, opens, ends) =
      subst (λ (n : ℕ). RunEnds h asked states (begin at n) old new status) (encoded_bytes place bytes opens written)
      (subst (λ (n : ℕ). RunEnds h asked states (begin n (written + bytes)) old new status) (encoded_place place bytes opens) ends)
