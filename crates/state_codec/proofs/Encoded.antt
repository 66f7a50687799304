-- Batches of bytes, and the states whose forms they make.
use Rattle.std.proofs.Common.{◌≡◌, ◌≤◌, ◌+◌, List, [], ℕ, Bool, true, false, Some, None, Result, Ok, Err, length, sym, ap, ◌∙◌, subst, arith}
use Rattle.std.specs.Prelude.{IfOk, if◌then◌else◌}
use Rattle.enrol_states.specs.Consistent.{IsConsistent}
use Rattle.enrol_states.specs.declared.state.State.{State}
use Rattle.state_codec.specs.Forms.{IsForm, IsEncoded, MakesForm}
use Rattle.state_codec.specs.Reading.{state_in}
use Rattle.state_codec.specs.Encoding.{rows_of, encoding}
use Rattle.state_codec.specs.Sound.{IsSound}
use Rattle.row_batches.specs.Batch.{ChangeList, IsBatch, applied, batch_text, whole_of}
use Rattle.row_batches.specs.Between.{changes_between, between}
use Rattle.row_batches.specs.Rows.{after_changes}
use Rattle.row_batches.specs.declared.change.RowChange.{RowChange}
use Rattle.row_batches.proofs.Cleared.{cleared_is_whole}
use Rattle.row_batches.proofs.OneEncoding.{one_encoding as batch_encoding}
use Rattle.row_batches.proofs.Walks.{made_of_none}
use Rattle.row_batches.specs.declared.store_row.StoreRow.{StoreRow}
use Rattle.state_codec.proofs.Forms.{Text, form_rises, form_rule, form_encoded, text_of_form}

-- the rows that a batch makes of any, where it begins with a clear
pub made_rows : (batch : ChangeList) (before after rows : List StoreRow) → batch.clear ≡ true → after ≡ applied batch before → rows ≡ after → rows ≡ after_changes batch.changes []
made_rows batch before after rows clear made is = is ∙ made ∙ ap (λ (b : Bool). after_changes batch.changes (if b then [] else before)) clear

-- where they are a form of a state, the batch makes that form
pub makes : (s : State) (batch : ChangeList) (rows : List StoreRow) → IsBatch batch → batch.clear ≡ true → rows ≡ after_changes batch.changes [] → IsForm s rows → MakesForm s batch
makes s batch rows rules clear made form = record { rows = rows; form = form; whole = cleared_is_whole batch rules clear ∙ ap whole_of (sym made) }

-- a batch that makes a form of a state gives that form
pub form_made : (s : State) (batch : ChangeList) (rows : List StoreRow) → IsConsistent s → rows ≡ after_changes batch.changes [] → MakesForm s batch → IsForm s rows
form_made s batch rows is made m =
    let same : rows ≡ m.rows = made ∙ ap (λ (b : ChangeList). after_changes b.changes []) m.whole ∙ made_of_none m.rows (form_rises s m.rows is m.form) in
    subst (IsForm s) (sym same) m.form

-- a batch of bytes that are encoded makes the form, and bytes of such a batch are encoded
pub text_makes : (s : State) (bytes : List ℕ) (batch : ChangeList) → bytes ≡ batch_text batch → IsBatch batch → IsSound s → Text s bytes → MakesForm s batch
text_makes s bytes batch text rules sound t =
    record { rows = t.rows; form = t.form; whole = batch_encoding batch (whole_of t.rows) rules (form_rule s t.rows sound t.form) (sym text ∙ t.text) }

pub encoded_makes : (s : State) (bytes : List ℕ) (batch : ChangeList) → bytes ≡ batch_text batch → IsBatch batch → IsSound s → IsEncoded s bytes → MakesForm s batch
encoded_makes s bytes batch text rules sound is = text_makes s bytes batch text rules sound (text_of_form s bytes is)

pub made_encoded : (s : State) (bytes : List ℕ) (batch : ChangeList) → bytes ≡ batch_text batch → MakesForm s batch → IsEncoded s bytes
made_encoded s bytes batch text m = form_encoded s bytes m.rows m.form (text ∙ ap batch_text m.whole)

pub not_read : (first later : List StoreRow) (s : State) → state_in first later ≡ None → state_in first later ≡ Some s → ⊥
not_read first later s none some = cc

pub one_state : (first later : List StoreRow) (s t : State) → state_in first later ≡ Some s → state_in first later ≡ Some t → s ≡ t
one_state first later s t is other = cc

pub if_ok_weaker : {T E : Type 0} (P Q : T → Type 0) (r : Result T E) → ((x : T) → P x → Q x) → IfOk r P → IfOk r Q
if_ok_weaker P Q (Ok x) more is = more x is
if_ok_weaker P Q (Err e) more is = is

-- ---- the batch from one state to the next

pub whole_text : (s t : State) (batch : ChangeList) → applied batch (rows_of s) ≡ rows_of t → batch_text (whole_of (applied batch (rows_of s))) ≡ encoding t
unfolding encoding
whole_text s t batch gives = ap (λ (rows : List StoreRow). batch_text (whole_of rows)) gives

pub short_text : (s t : State) (size : ℕ) (olds news : List StoreRow) → olds ≡ rows_of s → news ≡ rows_of t → size ≤ length (batch_text (whole_of olds)) + length (batch_text (whole_of news))
    → size ≤ length (encoding s) + length (encoding t)
unfolding encoding
short_text s t size olds news old_are new_are short =
    omega (arith, ap (λ (rows : List StoreRow). length (batch_text (whole_of rows))) old_are, ap (λ (rows : List StoreRow). length (batch_text (whole_of rows))) new_are)

abbrev of_list : List RowChange → ChangeList
of_list changes = record { clear = false; changes = changes }

pub batch_between : (s t : State) (batch : ChangeList) (changes : List RowChange) → batch ≡ record { clear = false; changes = changes } → changes ≡ changes_between (rows_of s) (rows_of t) → batch ≡ between (rows_of s) (rows_of t)
batch_between s t batch changes is same = is ∙ ap of_list same
