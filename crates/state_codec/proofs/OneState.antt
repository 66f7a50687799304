-- Rows, and bytes, are a form of one sound state at most.
use Rattle.std.proofs.Common.{◌≡◌, ℕ, List, inl, refl, sym, ◌∙◌, subst}
use Rattle.std.proofs.lemmas.Option.{same_Some}
use Rattle.enrol_states.specs.declared.state.State.{State}
use Rattle.row_batches.specs.Batch.{whole_of}
use Rattle.row_batches.specs.declared.store_row.StoreRow.{StoreRow}
use Rattle.row_batches.proofs.Cleared.{one_whole}
use Rattle.row_batches.proofs.OneEncoding.{one_encoding as batch_encoding}
use Rattle.state_codec.specs.Forms.{IsForm, IsEncoded}
use Rattle.state_codec.specs.Encoding.{encoding}
use Rattle.state_codec.specs.Sound.{IsSound}
use Rattle.state_codec.proofs.Forms.{Text, form_read, form_rises, form_rule, text_of_form}

pub one_form : (rows : List StoreRow) (s t : State) → IsSound s → IsSound t → IsForm s rows → IsForm t rows → s ≡ t
one_form rows s t s_is t_is s_has t_has = same_Some s t (sym (form_read rows s s_is s_has) ∙ form_read rows t t_is t_has)

one_text : (bytes : List ℕ) (s t : State) → IsSound s → IsSound t → Text s bytes → Text t bytes → s ≡ t
one_text bytes s t s_is t_is a b =
    let whole : whole_of a.rows ≡ whole_of b.rows = batch_encoding (whole_of a.rows) (whole_of b.rows) (form_rule s a.rows s_is a.form) (form_rule t b.rows t_is b.form) (sym a.text ∙ b.text) in
    let rows : a.rows ≡ b.rows = one_whole a.rows b.rows (form_rises s a.rows s_is.consistent a.form) (form_rises t b.rows t_is.consistent b.form) whole in
    one_form a.rows s t s_is t_is a.form (subst (IsForm t) (sym rows) b.form)

pub one_encoded : (bytes : List ℕ) (s t : State) → IsSound s → IsSound t → IsEncoded s bytes → IsEncoded t bytes → s ≡ t
one_encoded bytes s t s_is t_is s_has t_has = one_text bytes s t s_is t_is (text_of_form s bytes s_has) (text_of_form t bytes t_has)

pub one_encoding : (s t : State) → IsSound s → IsSound t → encoding s ≡ encoding t → s ≡ t
one_encoding s t s_is t_is same = one_encoded (encoding s) s t s_is t_is (inl refl) (inl same)
