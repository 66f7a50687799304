-- Laws of the definitions alone.
use Rattle.std.specs.Prelude.{◌≡◌, ◌<◌, ◌+◌, max, ℕ, List, [], ◌∷◌, ◌++◌, length, ⊤}
use Rattle.change_outbox.specs.declared.change.Change.{Change}
use Rattle.change_outbox.specs.Contents.{Contents, IsSound, no_changes, numbered, above, appended, confirmed}
use Rattle.change_outbox.specs.Rows.{rows_of}

-- sound outboxes that have one list of rows are one
abbrev pub HasOneListOfRows : Type 0
HasOneListOfRows = (o p : Contents) → IsSound o → IsSound p → rows_of o ≡ rows_of p → o ≡ p

-- ---- the history of an outbox

-- what is done to an outbox: changes are appended, or those up to a number are confirmed
pub data Action : Type 0 where
  Append : List Change → Action
  Confirm : ℕ → Action

-- the outbox after some actions
abbrev pub after : List Action → Contents → Contents
after [] o = o
after (Append changes ∷ actions) o = after actions (appended changes o)
after (Confirm number ∷ actions) o = after actions (confirmed number o)

-- each confirmed number is below the next one at its time
abbrev pub AreAccepted : List Action → Contents → Type 0
AreAccepted [] o = ⊤
AreAccepted (Append changes ∷ actions) o = AreAccepted actions (appended changes o)
AreAccepted (Confirm number ∷ actions) o = (number < o.next) × AreAccepted actions (confirmed number o)

-- all changes that were appended, in order
abbrev pub all_appended : List Action → List Change
all_appended [] = []
all_appended (Append changes ∷ actions) = changes ++ all_appended actions
all_appended (Confirm number ∷ actions) = all_appended actions

-- the greatest confirmed number, 0 where there is none
abbrev pub greatest_confirmed : List Action → ℕ
greatest_confirmed [] = 0
greatest_confirmed (Append changes ∷ actions) = greatest_confirmed actions
greatest_confirmed (Confirm number ∷ actions) = max number (greatest_confirmed actions)

-- A new outbox has after any actions exactly those of all changes, numbered from 1, that are above the greatest confirmed number,
-- and its next number is one above their count.
abbrev pub AreKeptUntilConfirmed : Type 0
AreKeptUntilConfirmed =
    (actions : List Action) → AreAccepted actions no_changes
    → after actions no_changes ≡ record { next = 1 + length (all_appended actions); entries = above (greatest_confirmed actions) (numbered 1 (all_appended actions)) }
