-- The first rows of a state are those before the row of its id, and the later ones are that row and those behind it.
use Rattle.std.proofs.Common.{◌≡◌, ◌≤◌, ◌<◌, ◌+◌, ◌++◌, ◌∷◌, [], List, ℕ, suc, Bool, true, false, inl, inr, map, length, get_or, take, drop, refl, sym, ap, ap₂, subst, ◌∙◌, add-one, drop-cons, append_assoc}
use Rattle.std.specs.Prelude.{if◌then◌else◌}
use Rattle.std.proofs.lemmas.List.{append-nil, drop_all, take_all, take_more}
use Rattle.enrol_states.specs.declared.state.State.{State}
use Rattle.row_batches.specs.declared.store_row.StoreRow.{StoreRow}
use Rattle.state_values.specs.Values.{bit, participation_byte}
use Rattle.state_codec.specs.Forms.{IsForm, IsLaterForm, AreParts}
use Rattle.state_codec.specs.Reading.{is_of_id, before_id, from_id}
use Rattle.state_codec.specs.Encoding.{key_row, first_rows, later_rows, rows_with}

one_whole : (b : Bool) (r : StoreRow) (before from rs : List StoreRow) → before ++ from ≡ rs → (if b then [] else r ∷ before) ++ (if b then r ∷ rs else from) ≡ r ∷ rs
one_whole true r before from rs whole = refl
one_whole false r before from rs whole = ap (λ l. r ∷ l) whole

pub whole : (rs : List StoreRow) → before_id rs ++ from_id rs ≡ rs
whole [] = refl
whole (r ∷ rs) = one_whole (is_of_id r) r (before_id rs) (from_id rs) rs (whole rs)

features_before : (names : List (List ℕ)) (rest : List StoreRow) → before_id rest ≡ [] → before_id (map (key_row (99 ∷ [])) names ++ rest) ≡ map (key_row (99 ∷ [])) names
features_before [] rest none = none
features_before (name ∷ names) rest none = ap (λ l. key_row (99 ∷ []) name ∷ l) (features_before names rest none)

from_features : (names : List (List ℕ)) (rest : List StoreRow) → from_id (map (key_row (99 ∷ [])) names ++ rest) ≡ from_id rest
from_features [] rest = refl
from_features (name ∷ names) rest = from_features names rest

first_of : (byte : ℕ) (s : State) → before_id (rows_with byte s) ≡ first_rows s
unfolding rows_with first_rows later_rows
first_of byte s = features_before s.coenrolling (later_rows byte s) refl

later_of : (byte : ℕ) (s : State) → from_id (rows_with byte s) ≡ later_rows byte s
unfolding rows_with first_rows later_rows
later_of byte s = from_features s.coenrolling (later_rows byte s)

-- rows that are a form of a state are its parts
pub form_parts : (rows : List StoreRow) (s : State) → IsForm s rows → AreParts s (before_id rows) (from_id rows)
form_parts rows s (inl is) = record { first_are = ap before_id is ∙ first_of (participation_byte s) s; later_are = inl (ap from_id is ∙ later_of (participation_byte s) s) }
form_parts rows s (inr old) = record {
  first_are = ap before_id old.same ∙ first_of (bit s.experiments) s;
  later_are = inr (record { one_flag = old.one_flag; same = ap from_id old.same ∙ later_of (bit s.experiments) s });
}

-- parts of a state are a form of it
both : (byte : ℕ) (s : State) (first later : List StoreRow) → first ≡ first_rows s → later ≡ later_rows byte s → first ++ later ≡ rows_with byte s
unfolding rows_with
both byte s first later first_are later_are = ap₂ (λ (a b : List StoreRow). a ++ b) first_are later_are

joined_form : (s : State) (first later : List StoreRow) → first ≡ first_rows s → IsLaterForm s later → IsForm s (first ++ later)
joined_form s first later first_are (inl is) = inl (both (participation_byte s) s first later first_are is)
joined_form s first later first_are (inr old) = inr (record { one_flag = old.one_flag; same = both (bit s.experiments) s first later first_are old.same })

pub parts_form : (s : State) (first later : List StoreRow) → AreParts s first later → IsForm s (first ++ later)
parts_form s first later parts = joined_form s first later parts.first_are parts.later_are

-- the same of rows that were divided so
pub form_where : (rows first later : List StoreRow) (s : State) → first ≡ before_id rows → later ≡ from_id rows → AreParts s first later → IsForm s rows
form_where rows first later s before from parts = subst (IsForm s) (ap₂ (λ (a b : List StoreRow). a ++ b) before from ∙ whole rows) (parts_form s first later parts)

pub parts_where : (rows first later : List StoreRow) (s : State) → first ≡ before_id rows → later ≡ from_id rows → IsForm s rows → AreParts s first later
parts_where rows first later s before from form =
    let parts = form_parts rows s form in
    record { first_are = before ∙ parts.first_are; later_are = subst (IsLaterForm s) (sym from) parts.later_are }

-- ---- the place of the row of the id

pub at_place : (rows : List StoreRow) (i : ℕ) (r : StoreRow) → i < length rows → r ≡ get_or rows i r → drop i rows ≡ r ∷ drop (i + 1) rows
at_place rows i r within is = rw add-one (drop-cons rows i r within ∙ ap (λ x. x ∷ drop (suc i) rows) (sym is))

module _ (rows : List StoreRow) (i : ℕ) (r : StoreRow) (within : i < length rows) (is : r ≡ get_or rows i r) where
  pub before_turn : is_of_id r ≡ false → take i rows ++ before_id (drop i rows) ≡ before_id rows → take (i + 1) rows ++ before_id (drop (i + 1) rows) ≡ before_id rows
  before_turn other so_far =
      ap (λ l. l ++ before_id (drop (i + 1) rows)) (take_more rows i r within ∙ ap (λ x. take i rows ++ x ∷ []) (sym is))
      ∙ append_assoc (take i rows) (r ∷ []) (before_id (drop (i + 1) rows))
      ∙ ap (λ l. take i rows ++ l) (sym (ap before_id (at_place rows i r within is) ∙ ap (λ b. if b then [] else r ∷ before_id (drop (i + 1) rows)) other))
      ∙ so_far

  pub from_turn : is_of_id r ≡ false → from_id (drop i rows) ≡ from_id rows → from_id (drop (i + 1) rows) ≡ from_id rows
  from_turn other so_far = sym (ap from_id (at_place rows i r within is) ∙ ap (λ b. if b then r ∷ drop (i + 1) rows else from_id (drop (i + 1) rows)) other) ∙ so_far

  pub before_here : is_of_id r ≡ true → take i rows ++ before_id (drop i rows) ≡ before_id rows → take i rows ≡ before_id rows
  before_here same so_far =
      sym (append-nil (take i rows))
      ∙ ap (λ l. take i rows ++ l) (sym (ap before_id (at_place rows i r within is) ∙ ap (λ b. if b then [] else r ∷ before_id (drop (i + 1) rows)) same))
      ∙ so_far

  pub from_here : is_of_id r ≡ true → from_id (drop i rows) ≡ from_id rows → drop i rows ≡ from_id rows
  from_here same so_far =
      at_place rows i r within is
      ∙ sym (ap from_id (at_place rows i r within is) ∙ ap (λ b. if b then r ∷ drop (i + 1) rows else from_id (drop (i + 1) rows)) same)
      ∙ so_far

-- there is none
pub before_none : (rows : List StoreRow) (i : ℕ) → length rows ≤ i → take i rows ++ before_id (drop i rows) ≡ before_id rows → rows ≡ before_id rows
before_none rows i past so_far =
    sym (append-nil rows) ∙ ap₂ (λ (a b : List StoreRow). a ++ before_id b) (sym (take_all i rows past)) (sym (drop_all i rows past)) ∙ so_far

pub from_none : (rows : List StoreRow) (i : ℕ) → length rows ≤ i → from_id (drop i rows) ≡ from_id rows → [] ≡ from_id rows
from_none rows i past so_far = ap from_id (sym (drop_all i rows past)) ∙ so_far
