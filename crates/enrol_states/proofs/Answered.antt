-- What a call answered, said in other words.
use Rattle.std.proofs.Common.{◌≡◌, ℕ, true, List, get_or, Result, Ok, Err, sym, ap, ◌∙◌, subst}
use Rattle.std.specs.Prelude.{IfOk, MatchResult, slice_set}
use Rattle.std.proofs.lemmas.List.{set-get_or}
use Rattle.enrol_states.specs.Consistent.{IsConsistent}
use Rattle.enrol_states.specs.Equal.{row_eq}
use Rattle.enrol_states.specs.Equals.{row_Decides}
use Rattle.sequences.specs.declared.next_list.NextList.{NextList}
use Rattle.enrol_states.specs.declared.next_state.NextState.{NextState}
use Rattle.enrol_states.specs.declared.state.Row.{Row}
use Rattle.enrol_states.specs.declared.state.State.{State}

pub if_listed : {A E : Type 0} (r : Result (NextList A) E) (xs ys : List A) → xs ≡ ys → IfOk r (λ next. next.list ≡ xs) → IfOk r (λ next. next.list ≡ ys)
if_listed (Ok next) xs ys e h = h ∙ e
if_listed (Err x) xs ys e h = tt

pub if_consistent : {E : Type 0} (r : Result NextState E) (s t : State) → s ≡ t → IsConsistent t → IfOk r (λ next. next.state ≡ s) → IfOk r (λ next. IsConsistent next.state)
if_consistent (Ok next) s t e c h = subst IsConsistent (sym (h ∙ e)) c
if_consistent (Err x) s t e c h = tt

pub if_matched : {T E : Type 0} (r : Result T E) (a b : T) (Q : E → Type 0) → a ≡ b → MatchResult r (λ t. t ≡ a) Q → IfOk r (λ t. t ≡ b)
if_matched (Ok t) a b Q e h = h ∙ e
if_matched (Err x) a b Q e h = tt

-- a row in the place of one that is the same
pub same_row : (rows : List Row) (i : ℕ) (d row : Row) → d ≡ get_or rows i d → row_eq d row ≡ true → rows ≡ slice_set rows i row
same_row rows i d row here same = sym (set-get_or rows i d) ∙ ap (slice_set rows i) (sym here ∙ (row_Decides d row).0 same)
