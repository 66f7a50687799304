-- The rows of a list's items, and a walk over those of two lists.
use Rattle.std.specs.Prelude.{◌≡◌, ◌≢◌, ◌<◌, ℕ, Bool, List, [], ◌∷◌, All, length, if◌then◌else◌}
use Rattle.std.specs.declared.cmp.Ordering.TheVariants.{Less, Equal, Greater}
use Rattle.row_batches.specs.Rows.{key_cmp}
use Rattle.row_batches.specs.declared.store_row.StoreRow.{StoreRow}
use Rattle.row_batches.specs.declared.walking.Step.{Step}
use Rattle.row_batches.specs.declared.walking.Step.TheVariants.{Gone, New, Differs, Same}

abbrev pub item_row : {A : Type 0} → (A → List ℕ) → (A → List ℕ) → A → StoreRow
item_row key value x = record { key = key x; value = value x }

-- the rows of the items that have one
abbrev pub item_rows : {A : Type 0} → (A → Bool) → (A → List ℕ) → (A → List ℕ) → List A → List StoreRow
item_rows has key value [] = []
item_rows has key value (x ∷ xs) = if has x then item_row key value x ∷ item_rows has key value xs else item_rows has key value xs

-- the first item that has a row, and the items behind it
pub record IsFirst {A : Type 0} (has : A → Bool) (key value : A → List ℕ) (Fits : A → Type 0) (items : List A) (x : A) (behind : List A) : Type 0 where
  pub rows : item_rows has key value items ≡ item_row key value x ∷ item_rows has key value behind
  pub first : Fits x
  pub each : All Fits behind
  pub fewer : length behind < length items

-- what a row is to another, by their keys and values
abbrev pub IsStep : List ℕ → List ℕ → List ℕ → List ℕ → Step → Type 0
IsStep old old_value new new_value Gone = key_cmp old new ≡ Less
IsStep old old_value new new_value New = key_cmp old new ≡ Greater
IsStep old old_value new new_value Differs = (key_cmp old new ≡ Equal) × (old_value ≢ new_value)
IsStep old old_value new new_value Same = (key_cmp old new ≡ Equal) × (old_value ≡ new_value)
