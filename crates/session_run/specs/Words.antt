-- The forms of a command line.
use Rattle.std.specs.Prelude.{◌≡◌, ◌⊎◌, ◌<◌, ◌≤◌, ◌^◌, ℕ, List, [], ◌∷◌, Some, codes, decimal}
use Rattle.uuid.specs.Text.{parsed}

-- `run`
abbrev pub IsRun : List (List ℕ) → Type 0
IsRun words = words ≡ codes "run" ∷ []

-- `init ID`, where ID reads as these sixteen bytes
abbrev pub IsInitOf : List ℕ → List (List ℕ) → Type 0
IsInitOf id words = (text : List ℕ) × (words ≡ codes "init" ∷ text ∷ []) × (parsed text ≡ Some id)

abbrev pub IsInit : List (List ℕ) → Type 0
IsInit words = (id : List ℕ) × IsInitOf id words

-- START is below 2^64, and N from 1 to 2,000
pub record AreDrillNumbers (start count : ℕ) : Type 0 where
  pub below : start < 2 ^ 64
  pub at_least : 1 ≤ count
  pub at_most : count ≤ 2000

-- `drill START N`, where START and N are these numbers in decimal
abbrev pub IsDrillOf : ℕ → ℕ → List (List ℕ) → Type 0
IsDrillOf start count words = (words ≡ codes "drill" ∷ decimal start ∷ decimal count ∷ []) × AreDrillNumbers start count

abbrev pub IsDrill : List (List ℕ) → Type 0
IsDrill words = (start count : ℕ) × IsDrillOf start count words

-- one of the forms
abbrev pub HasForm : List (List ℕ) → Type 0
HasForm words = IsRun words ⊎ IsInit words ⊎ IsDrill words
