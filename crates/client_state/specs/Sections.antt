-- Sections of rows, by the bytes that begin their keys.
use Rattle.std.specs.Prelude.{◌≡◌, ◌+◌, ℕ, nat_lt, Bool, true, if◌then◌else◌, List, [], ◌∷◌, take, drop}
use Rattle.row_batches.specs.declared.store_row.StoreRow.{StoreRow}
use Rattle.state_codec.specs.Forms.{AreParts}
use Rattle.state_codec.specs.Sound as enrolments
use Rattle.event_counts.specs.Rows as count_rows
use Rattle.event_counts.specs.Sound as counts
use Rattle.change_outbox.specs.Contents as contents
use Rattle.change_outbox.specs.Rows as change_rows
use Rattle.pref_bindings.specs.Preferences as preference_lists
use Rattle.pref_bindings.specs.Rows.{hold_rows, value_rows}
use Rattle.client_state.specs.declared.client_state.ClientState.{ClientState}
use Rattle.client_state.specs.declared.sections.Sections.{Sections}

-- whether the key is below that of the byte alone
abbrev pub is_below : ℕ → List ℕ → Bool
is_below end [] = true
is_below end (byte ∷ rest) = nat_lt byte end

-- how many rows stand before the first whose key isn't below that of the byte
abbrev pub count_below : ℕ → List StoreRow → ℕ
count_below end [] = 0
count_below end (r ∷ rows) = if is_below end r.key then 1 + count_below end rows else 0

-- the sections of rows: up to the first whose key isn't below that of each byte in turn, and all others
abbrev pub divided : List ℕ → List StoreRow → List (List StoreRow)
divided [] rows = rows ∷ []
divided (end ∷ ends) rows = take (count_below end rows) rows ∷ divided ends (drop (count_below end rows) rows)

-- 'e', 'f', 'i', 'x' and 'y'
abbrev pub ends : List ℕ
ends = 101 ∷ 102 ∷ 105 ∷ 120 ∷ 121 ∷ []

-- the rows of each section
abbrev pub lists_of : Sections → List (List StoreRow)
lists_of sections = sections.first.now ∷ sections.events.now ∷ sections.holds.now ∷ sections.later.now ∷ sections.outbox.now ∷ sections.values.now ∷ []

-- the sections have the rows of the state's parts, or those of its old form
pub record HasSections (s : ClientState) (sections : Sections) : Type 0 where
  pub enrolment : AreParts s.enrolment sections.first.now sections.later.now
  pub events : sections.events.now ≡ count_rows.rows_of s.events
  pub holds : sections.holds.now ≡ hold_rows s.preferences
  pub outbox : sections.outbox.now ≡ change_rows.rows_of s.outbox
  pub values : sections.values.now ≡ value_rows s.preferences

-- each part of the state is sound by itself
pub record AreSoundParts (s : ClientState) : Type 0 where
  pub enrolment : enrolments.IsSound s.enrolment
  pub events : counts.IsSound s.events
  pub outbox : contents.IsSound s.outbox
  pub preferences : preference_lists.IsSound s.preferences
