-- The changes between the rows of two states are a batch, and the text of all rows after it is the encoding of the next state.
use Rattle.std.proofs.Common.{◌≡◌, ◌≤◌, ◌<◌, ◌^◌, ◌+◌, false, List, length, refl, sym, subst}
use Rattle.enrol_states.specs.Consistent.{IsConsistent}
use Rattle.enrol_states.specs.declared.state.State.{State}
use Rattle.row_batches.specs.Batch.{ChangeList, IsBatch, applied, batch_text, whole_of}
use Rattle.row_batches.specs.Between.{changes_between, between}
use Rattle.row_batches.specs.declared.change.RowChange.{RowChange}
use Rattle.row_batches.proofs.Sizes.{between_short}
use Rattle.row_batches.proofs.Walks.{between_rule, applied_between}
use Rattle.state_codec.specs.Encoding.{rows_of, encoding}
use Rattle.state_codec.proofs.KeyOrder.{rows_rise}
use Rattle.state_codec.proofs.Room.{rows_room}
use Rattle.state_codec.proofs.Encoded.{whole_text, short_text}

pub is_batch : (s t : State) (changes : List RowChange) → IsConsistent s → IsConsistent t → length (encoding s) < 2 ^ 32 → length (encoding t) < 2 ^ 32
    → changes ≡ changes_between (rows_of s) (rows_of t) → IsBatch (record { clear = false; changes = changes })
is_batch s t changes s_is t_is s_fits t_fits are =
    subst (λ (cs : List RowChange). IsBatch (record { clear = false; changes = cs })) (sym are)
    (between_rule (rows_of s) (rows_of t) (rows_rise s s_is) (rows_rise t t_is) (rows_room s s_is s_fits) (rows_room t t_is t_fits))

pub gives_rows : (s t : State) (batch : ChangeList) → IsConsistent s → IsConsistent t → batch ≡ between (rows_of s) (rows_of t) → applied batch (rows_of s) ≡ rows_of t
gives_rows s t batch s_is t_is is = applied_between (rows_of s) (rows_of t) batch (rows_rise s s_is) (rows_rise t t_is) is

pub gives_whole : (s t : State) (batch : ChangeList) → IsConsistent s → IsConsistent t → batch ≡ between (rows_of s) (rows_of t) → batch_text (whole_of (applied batch (rows_of s))) ≡ encoding t
gives_whole s t batch s_is t_is is = whole_text s t batch (gives_rows s t batch s_is t_is is)

pub is_short : (s t : State) (batch : ChangeList) → batch ≡ between (rows_of s) (rows_of t) → length (batch_text batch) ≤ length (encoding s) + length (encoding t)
is_short s t batch is =
    short_text s t (length (batch_text batch)) (rows_of s) (rows_of t) refl refl
    (subst (λ (b : ChangeList). length (batch_text b) ≤ length (batch_text (whole_of (rows_of s))) + length (batch_text (whole_of (rows_of t)))) (sym is) (between_short (rows_of s) (rows_of t)))
