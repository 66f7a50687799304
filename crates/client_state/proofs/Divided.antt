-- The sections of the rows of states: how they are joined, and that rows are divided into them in one way.
use Rattle.std.proofs.Common.{◌≡◌, ◌≤◌, ◌+◌, ◌++◌, ◌∷◌, [], List, ℕ, true, false, Less, map, length, get_or, take, drop, refl, sym, ap, ap₂, ◌∙◌, arith}
use Rattle.std.specs.Prelude.{◌&&◌, nat_le, nat_lt, if◌then◌else◌}
use Rattle.std.specs.Cmp.{nat_cmp_is}
use Rattle.std.specs.Cmp.Lexicographic.{slice_cmp}
use Rattle.std.specs.List.{AllByRecursion}
use Rattle.std.specs.Ordering.{nat_cmp, ordering_then}
use Rattle.std.proofs.lemmas.Bool.{and_parts, leb-true, ltb-true, ltb-false, le-ltb}
use Rattle.std.proofs.lemmas.List.{take-append-drop}
use Rattle.std.proofs.Math.Seq.{take-append_seam, drop-append_seam}
use Rattle.sequences.proofs.Alls.{all_so}
use Rattle.row_batches.specs.Places.{AreAbove}
use Rattle.row_batches.specs.Rows.{key_cmp, key_of}
use Rattle.row_batches.specs.declared.store_row.StoreRow.{StoreRow}
use Rattle.row_batches.proofs.Joining.{Precede}
use Rattle.event_counts.specs.Rows as count_rows
use Rattle.change_outbox.specs.Rows as change_rows
use Rattle.pref_bindings.specs.Rows.{hold_rows, value_rows}
use Rattle.state_codec.specs.Encoding.{first_rows, later_rows}
use Rattle.state_codec.proofs.Letters.{all_append, first_all, later_all}
use Rattle.client_state.specs.Sections.{is_below, count_below, divided, ends}
use Rattle.client_state.specs.Encoding.{rows_with}
use Rattle.client_state.specs.declared.client_state.ClientState.{ClientState}
use Rattle.client_state.proofs.Letters.{events_all, holds_all, outbox_all, values_all}

-- ---- the sections

-- a section of the rows of states, by the byte of participation: their keys are below that of the byte `end`
pub record Section : Type 0 where
  pub end : ℕ
  pub rows : ℕ → ClientState → List StoreRow

-- all but the last, which has the rows of values
abbrev pub sections : List Section
sections =
    record { end = 101; rows = λ byte s. first_rows s.enrolment }
    ∷ record { end = 102; rows = λ byte s. count_rows.rows_of s.events }
    ∷ record { end = 105; rows = λ byte s. hold_rows s.preferences }
    ∷ record { end = 120; rows = λ byte s. later_rows byte s.enrolment }
    ∷ record { end = 121; rows = λ byte s. change_rows.rows_of s.outbox }
    ∷ []

-- the rows of these sections of the state, and of the last
abbrev pub joined : List Section → ℕ → ClientState → List StoreRow
joined [] byte s = value_rows s.preferences
joined (x ∷ xs) byte s = x.rows byte s ++ joined xs byte s

-- in lists of their own
abbrev pub lists : List Section → ℕ → ClientState → List (List StoreRow)
lists [] byte s = value_rows s.preferences ∷ []
lists (x ∷ xs) byte s = x.rows byte s ∷ lists xs byte s

-- ---- where they stand

-- none of the rows has a key below that of the byte
abbrev pub AreFrom : ℕ → List StoreRow → Type 0
AreFrom end rows = AllByRecursion (λ r. is_below end r.key ≡ false) rows

abbrev AreBelow : ℕ → List StoreRow → Type 0
AreBelow end rows = AllByRecursion (λ r. is_below end r.key ≡ true) rows

-- the row's key is below that of the one byte, and not below that of the other
abbrev IsWithin : ℕ → ℕ → StoreRow → Type 0
IsWithin from end r = (is_below from r.key ≡ false) × (is_below end r.key ≡ true)

-- the rows of the section, whatever the state is
pub record Stands (from : ℕ) (x : Section) : Type 0 where
  pub rise : from ≤ x.end
  pub within : (byte : ℕ) (s : ClientState) → AllByRecursion (IsWithin from x.end) (x.rows byte s)

-- each section stands behind the one before
abbrev pub AreDivided : ℕ → List Section → Type 0
AreDivided from [] = (s : ClientState) → AreFrom from (value_rows s.preferences)
AreDivided from (x ∷ xs) = Stands from x × AreDivided x.end xs

letter_within : (letter : ℕ) → (nat_le 105 letter && nat_lt letter 120) ≡ true → (nat_lt letter 105 ≡ false) × (nat_lt letter 120 ≡ true)
letter_within letter is = let parts = and_parts (nat_le 105 letter) (nat_lt letter 120) is in (le-ltb letter 105 (leb-true 105 letter parts.0), parts.1)

pub are_divided : AreDivided 0 sections
are_divided = (
  record { rise = omega arith; within = λ byte s. first_all (IsWithin 0 101) s.enrolment (λ rest value. (refl, refl)) },
  (
    record { rise = omega arith; within = λ byte s. events_all (IsWithin 101 102) s.events (λ rest value. (refl, refl)) },
    (
      record { rise = omega arith; within = λ byte s. holds_all (IsWithin 102 105) s.preferences (λ rest value. (refl, refl)) },
      (
        record { rise = omega arith; within = λ byte s. later_all (IsWithin 105 120) byte s.enrolment (λ letter rest value is. letter_within letter is) },
        (
          record { rise = omega arith; within = λ byte s. outbox_all (IsWithin 120 121) s.outbox (λ rest value. (refl, refl)) },
          λ s. values_all (λ r. is_below 121 r.key ≡ false) s.preferences (λ rest value. refl),
        ),
      ),
    ),
  ),
)

-- ---- the order of keys

key_from : (low from : ℕ) (key : List ℕ) → low ≤ from → is_below from key ≡ false → is_below low key ≡ false
key_from low from [] most is = absurd cc
key_from low from (byte ∷ rest) most is = le-ltb byte low (omega (arith, most, ltb-false byte from is))

-- the rows from a section on
from_on : (low from : ℕ) (xs : List Section) (byte : ℕ) (s : ClientState) → low ≤ from → AreDivided from xs → AreFrom low (joined xs byte s)
from_on low from [] byte s most are = all_so _ _ (value_rows s.preferences) (λ r is. key_from low from r.key most is) (are s)
from_on low from (x ∷ xs) byte s most are =
    all_append (λ r. is_below low r.key ≡ false) (x.rows byte s) (joined xs byte s) (all_so _ _ (x.rows byte s) (λ r is. key_from low from r.key most is.0) (are.0.within byte s))
    (from_on low x.end xs byte s (omega (arith, most, are.0.rise)) are.1)

below_end : (from : ℕ) (x : Section) (byte : ℕ) (s : ClientState) → Stands from x → AreBelow x.end (x.rows byte s)
below_end from x byte s stands = all_so _ _ (x.rows byte s) (λ r is. is.1) (stands.within byte s)

key_before : (end : ℕ) (key other : List ℕ) → is_below end key ≡ true → is_below end other ≡ false → key_cmp key other ≡ Less
key_before end [] [] is from = absurd cc
key_before end [] (y ∷ ys) is from = refl
key_before end (x ∷ xs) [] is from = absurd cc
key_before end (x ∷ xs) (y ∷ ys) is from =
    ap (λ o. ordering_then o (slice_cmp nat_cmp xs ys)) (sym (nat_cmp_is x y Less (omega (arith, ltb-true x end is, ltb-false y end from))))

keys_behind : (end : ℕ) (key : List ℕ) (behind : List StoreRow) → is_below end key ≡ true → AreFrom end behind → AreAbove key (map key_of behind)
keys_behind end key [] is from = tt
keys_behind end key (r ∷ rs) is from = (key_before end key r.key is from.0, keys_behind end key rs is from.1)

-- the rows of a section in any state come before those behind it in any other
pub before : (from : ℕ) (x : Section) (xs : List Section) (b c : ℕ) (s t : ClientState) → AreDivided from (x ∷ xs) → Precede (x.rows b s) (joined xs c t)
before from x xs b c s t are =
    let behind = from_on x.end x.end xs c t (omega arith) are.1 in all_so _ _ (x.rows b s) (λ r below. keys_behind x.end r.key (joined xs c t) below behind) (below_end from x b s are.0)

-- ---- one division

count_joined : (end : ℕ) (front behind : List StoreRow) → AreBelow end front → AreFrom end behind → count_below end (front ++ behind) ≡ length front
count_joined end [] [] below from = refl
count_joined end [] (r ∷ rs) below from = ap (λ c. if c then 1 + count_below end rs else 0) from.0
count_joined end (r ∷ rs) behind below from =
    ap (λ c. if c then 1 + count_below end (rs ++ behind) else 0) below.0 ∙ ap (λ n. 1 + n) (count_joined end rs behind below.1 from) ∙ omega arith

divided_joined : (from : ℕ) (xs : List Section) (byte : ℕ) (s : ClientState) → AreDivided from xs → divided (map (λ (x : Section). x.end) xs) (joined xs byte s) ≡ lists xs byte s
divided_joined from [] byte s are = refl
divided_joined from (x ∷ xs) byte s are =
    let front = x.rows byte s in
    let behind = joined xs byte s in
    let count = count_joined x.end front behind (below_end from x byte s are.0) (from_on x.end x.end xs byte s (omega arith) are.1) in
    ap (λ n. take n (front ++ behind) ∷ divided (map (λ (y : Section). y.end) xs) (drop n (front ++ behind))) count
    ∙ ap₂ (λ a b. a ∷ divided (map (λ (y : Section). y.end) xs) b) (take-append_seam front behind) (drop-append_seam front behind)
    ∙ ap (λ l. front ∷ l) (divided_joined x.end xs byte s are.1)

joined_divided : (xs : List Section) (byte : ℕ) (s : ClientState) (rows : List StoreRow) → divided (map (λ (x : Section). x.end) xs) rows ≡ lists xs byte s → rows ≡ joined xs byte s
joined_divided [] byte s rows same = ap (λ l. get_or l 0 []) same
joined_divided (x ∷ xs) byte s rows same =
    let n = count_below x.end rows in
    sym (take-append-drop n rows) ∙ ap₂ (λ a b. a ++ b) (ap (λ l. get_or l 0 []) same) (joined_divided xs byte s (drop n rows) (ap (λ l. drop 1 l) same))

-- the sections of a state's rows are those of its parts
pub own_sections : (byte : ℕ) (s : ClientState) → divided ends (rows_with byte s) ≡ lists sections byte s
unfolding rows_with
own_sections byte s = divided_joined 0 sections byte s are_divided

pub of_sections : (byte : ℕ) (s : ClientState) (rows : List StoreRow) → divided ends rows ≡ lists sections byte s → rows ≡ rows_with byte s
unfolding rows_with
of_sections byte s rows same = joined_divided sections byte s rows same
