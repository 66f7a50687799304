-- What rows of a store say of a state. Of rows that encode one it is the state; what it makes of other rows doesn't matter.
use Rattle.std.specs.Prelude.{◌≡◌, ℕ, ◌==◌, ◌||◌, nat_le, Bool, true, false, List, [], ◌∷◌, length, Option, Some, None, if◌then◌else◌, codes, bytes_eq, ⊤}
use Rattle.recipe_reader.specs.Records.{IsValid}
use Rattle.recipe_reader.specs.Payloads.{AreValid, has_slug, with_recipe}
use Rattle.recipe_reader.specs.declared.recipe.Recipe.{Recipe}
use Rattle.enrol_states.specs.declared.state.State.{State}
use Rattle.enrol_states.specs.declared.state.Row.{Row}
use Rattle.state_values.specs.declared.participation.Participation.{Participation}
use Rattle.state_codec.specs.declared.state_reading.Lists.{Lists}
use Rattle.state_codec.specs.declared.state_reading.StateRecipes.{StateRecipes}
use Rattle.state_codec.specs.declared.state_reading.Last.{Last}
use Rattle.row_batches.specs.declared.store_row.StoreRow.{StoreRow}
use Rattle.state_values.specs.Outcome.{◌>>=◌}
use Rattle.state_values.specs.Reading.{slug_in, text_in, number_in, flag_in, participation_in, id_in, recipe_in, status_in}
use Rattle.enrol_states.specs.SoundParts.{AreValidIf}
use Rattle.state_codec.specs.Folds.{folded, keeping}

-- ---- rows

-- whether the row is that of the id, which is the first of the later rows
abbrev pub is_of_id : StoreRow → Bool
is_of_id r = bytes_eq r.key (codes "i")

abbrev pub before_id : List StoreRow → List StoreRow
before_id [] = []
before_id (r ∷ rs) = if is_of_id r then [] else r ∷ before_id rs

abbrev pub from_id : List StoreRow → List StoreRow
from_id [] = []
from_id (r ∷ rs) = if is_of_id r then r ∷ rs else from_id rs

-- what follows the tag in the key, where the key begins with it
abbrev pub after_tag : ℕ → List ℕ → Option (List ℕ)
after_tag tag [] = None
after_tag tag (x ∷ rest) = if x == tag then Some rest else None

-- what is read of the row's value and of its key behind the tag, where the key begins with it
abbrev pub tagged : {A : Type 0} → (List ℕ → List ℕ → Option A) → Option (List ℕ) → List ℕ → Option (Option A)
tagged read None value = Some None
tagged read (Some rest) value = read rest value >>= λ a. Some (Some a)

unfoldable pub slug_row : ℕ → StoreRow → Option (Option (List ℕ))
slug_row tag r = tagged (λ rest value. slug_in rest) (after_tag tag r.key) r.value

unfoldable pub text_row : ℕ → StoreRow → Option (Option (List ℕ))
text_row tag r = tagged (λ rest value. text_in rest) (after_tag tag r.key) r.value

unfoldable pub recipe_row : ℕ → StoreRow → Option (Option Recipe)
recipe_row tag r = tagged (λ rest value. recipe_in value) (after_tag tag r.key) r.value

-- whether the bytes are read as the recipe, which is valid
abbrev pub IsRecordOf : Recipe → List ℕ → Type 0
IsRecordOf r bytes = (recipe_in bytes ≡ Some r) × IsValid r

unfoldable pub client_row_in : List ℕ → List ℕ → Option Row
client_row_in rest value = do
  slug ← slug_in rest
  status ← status_in value
  Some (record { slug = slug; status = status })

unfoldable pub client_row : ℕ → StoreRow → Option (Option Row)
client_row tag r = tagged client_row_in (after_tag tag r.key) r.value

unfoldable pub slugs_under : ℕ → List StoreRow → Option (List (List ℕ))
slugs_under tag rs = folded (keeping (slug_row tag)) [] rs

unfoldable pub texts_under : ℕ → List StoreRow → Option (List (List ℕ))
texts_under tag rs = folded (keeping (text_row tag)) [] rs

unfoldable pub client_rows_under : ℕ → List StoreRow → Option (List Row)
client_rows_under tag rs = folded (keeping (client_row tag)) [] rs

-- the recipes with one more, which has none of their slugs; there are at most 2,000
abbrev pub inserted : List Recipe → Option Recipe → Option (List Recipe)
inserted rs None = Some rs
inserted rs (Some r) = if nat_le 2000 (length rs) || has_slug r.slug rs then None else Some (with_recipe r rs)

abbrev pub inserting : ℕ → List Recipe → StoreRow → Option (List Recipe)
inserting tag rs r = recipe_row tag r >>= inserted rs

unfoldable pub recipes_under : ℕ → List StoreRow → Option (List Recipe)
recipes_under tag rs = folded (inserting tag) [] rs

-- the value of the first row whose key begins with the tag
abbrev pub value_if : Option (List ℕ) → List ℕ → Option (List ℕ) → Option (List ℕ)
value_if None value later = later
value_if (Some rest) value later = Some value

abbrev pub value_under : ℕ → List StoreRow → Option (List ℕ)
value_under tag [] = None
value_under tag (r ∷ rs) = value_if (after_tag tag r.key) r.value (value_under tag rs)

unfoldable pub number_under : ℕ → List StoreRow → Option ℕ
number_under tag rs = value_under tag rs >>= number_in

unfoldable pub flag_under : ℕ → List StoreRow → Option Bool
flag_under tag rs = do
  value ← value_under tag rs
  Some (flag_in value)

unfoldable pub id_under : List StoreRow → Option (List ℕ)
id_under rs = value_under 105 rs >>= id_in

unfoldable pub participation_under : List StoreRow → Option Participation
participation_under rs = value_under 112 rs >>= participation_in

unfoldable pub version_under : List StoreRow → Option (List ℕ)
version_under rs = value_under 118 rs >>= text_in

-- the recipes that are pending, where the flag says so
abbrev pub pending_if : Bool → List Recipe → Option (List Recipe)
pending_if true rs = Some rs
pending_if false rs = None

-- ---- the state

unfoldable pub lists_in : List StoreRow → List StoreRow → Option Lists
lists_in first later = do
  coenrolling ← texts_under 99 first
  opted_out ← slugs_under 111 later
  rows ← client_rows_under 114 later
  Some (record { coenrolling = coenrolling; opted_out = opted_out; rows = rows })

unfoldable pub recipes_in : List StoreRow → Option StateRecipes
recipes_in rs = do
  live ← recipes_under 108 rs
  waiting ← recipes_under 110 rs
  pending ← flag_under 113 rs
  Some (record { live = live; pending = pending_if pending waiting })

unfoldable pub last_in : List StoreRow → Option Last
last_in rs = do
  installed ← number_under 116 rs
  updated ← number_under 117 rs
  version ← version_under rs
  Some (record { installed = installed; updated = updated; version = version })

-- of the first rows and the later ones
unfoldable pub state_in : List StoreRow → List StoreRow → Option State
state_in first later = do
  id ← id_under later
  participation ← participation_under later
  last ← last_in later
  lists ← lists_in first later
  recipes ← recipes_in later
  Some (record { id = id; installed = last.installed; updated = last.updated; version = last.version; experiments = participation.experiments; rollouts = participation.rollouts; opted_out = lists.opted_out; coenrolling = lists.coenrolling; live = recipes.live; pending = recipes.pending; rows = lists.rows })

-- ---- what readers keep

abbrev pub IsValidIf : Option Recipe → Type 0
IsValidIf None = ⊤
IsValidIf (Some r) = IsValid r

pub record HaveValid (r : StateRecipes) : Type 0 where
  pub live : AreValid r.live
  pub pending : AreValidIf r.pending
