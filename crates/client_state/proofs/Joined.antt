-- The changes between the rows of two states are those of each section, and none where a part is as before.
use Rattle.std.proofs.Common.{◌≡◌, ◌++◌, [], ◌∷◌, List, ℕ, refl, ap, ◌∙◌}
use Rattle.row_batches.specs.Between.{changes_between}
use Rattle.row_batches.specs.declared.change.RowChange.{RowChange}
use Rattle.row_batches.proofs.Joining.{between-append}
use Rattle.pref_bindings.specs.Rows.{value_rows}
use Rattle.client_state.specs.declared.client_state.ClientState.{ClientState}
use Rattle.client_state.specs.Encoding.{rows_with}
use Rattle.client_state.proofs.Divided.{AreDivided, Section, are_divided, before, joined, sections}

module _ (b c : ℕ) (s t : ClientState) where
  -- the changes of each section, one after the other
  abbrev pub changes_in : List Section → List RowChange
  changes_in [] = changes_between (value_rows s.preferences) (value_rows t.preferences)
  changes_in (x ∷ xs) = changes_between (x.rows b s) (x.rows c t) ++ changes_in xs

  between_joined : (from : ℕ) (xs : List Section) → AreDivided from xs → changes_between (joined xs b s) (joined xs c t) ≡ changes_in xs
  between_joined from [] are = refl
  between_joined from (x ∷ xs) are =
      between-append (joined xs b s) (joined xs c t) (x.rows b s) (x.rows c t) (before from x xs b c s t are) (before from x xs c b t s are)
      ∙ ap (λ l. changes_between (x.rows b s) (x.rows c t) ++ l) (between_joined x.end xs are.1)

  pub all_between : changes_between (rows_with b s) (rows_with c t) ≡ changes_in sections
  unfolding rows_with
  all_between = between_joined 0 sections are_divided
