-- A pair stands for one state, and its next record begins at one place.
use Rattle.std.proofs.Common.{◌≡◌, inl, ℕ, List, refl, sym, ◌∙◌, ap, subst}
use Rattle.gate_journal.specs.Records.{place_of}
use Rattle.pair_store.proofs.Unique.{one_list}
use Rattle.row_store.specs.Rows.{HasPlace}
use Rattle.row_store.proofs.Folds.{one_map}
use Rattle.client_state.specs.declared.client_state.ClientState.{ClientState}
use Rattle.client_state.specs.Forms.{IsForm}
use Rattle.client_state.specs.Sound.{IsSound}
use Rattle.client_state.specs.Encoding.{rows_of}
use Rattle.client_state.proofs.OneState.{one_form}
use Rattle.client_store.specs.Store.{StandsFor, KeptFor}
use Rattle.client_store.proofs.Holding.{stands_of_kept}

-- sound states with the same rows are one
pub one_of_rows : (s t : ClientState) → IsSound s → IsSound t → rows_of s ≡ rows_of t → s ≡ t
one_of_rows s t s_sound t_sound same = one_form (rows_of t) s t s_sound t_sound (inl (sym same)) (inl refl)

-- a pair has one list of rows, and stands for one state at most
pub one_stored : (l r : List ℕ) (s t : ClientState) (a : StandsFor l r s) (b : StandsFor l r t) → a.stored ≡ b.stored
one_stored l r s t a b = one_map l r a.stored b.stored a.rows b.rows

pub stands_once : (l r : List ℕ) (s t : ClientState) → StandsFor l r s → StandsFor l r t → s ≡ t
stands_once l r s t a b = one_form b.stored s t a.sound b.sound (subst (IsForm s) (one_stored l r s t a b) a.form) b.form

pub one_state : (l r : List ℕ) (s t : ClientState) → KeptFor l r s → KeptFor l r t → s ≡ t
one_state l r s t a b = stands_once l r s t (stands_of_kept l r s a) (stands_of_kept l r t b)

-- the next record of a pair begins at one place at most
pub one_place : (l r : List ℕ) (place other : ℕ) → HasPlace l r place → HasPlace l r other → place ≡ other
one_place l r place other a b = a.2 ∙ ap place_of (one_list l r a.0 b.0 a.1 b.1) ∙ sym b.2
