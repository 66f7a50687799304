-- What a crash might have left at the moments of a call or of a run of calls.
-- In l, r, u the left and the right image come first, then the text that was said.
use Rattle.std.specs.Prelude.{◌≡◌, ◌⊎◌, ◌↔◌, ℕ, ◌≤◌, List, ◌++◌, take}
use Rattle.host_model.specs.declared.side.Side.{Side}
use Rattle.host_model.specs.declared.side.Side.TheVariants.{Left, Right}
use Rattle.host_model.specs.Sides.{other, on}

-- what a crash at this moment may leave, and the text said
abbrev pub IsNow : (Side → List ℕ → Type 0) → List ℕ → List ℕ → List ℕ → List ℕ → Type 0
IsNow images said l r u = images Left l × images Right r × (u ≡ said)

-- the same while these bytes are said
abbrev pub IsSaying : (Side → List ℕ → Type 0) → List ℕ → List ℕ → List ℕ → List ℕ → List ℕ → Type 0
IsSaying images said bytes l r u = images Left l × images Right r × ((n : ℕ) × (u ≡ said ++ take n bytes))

-- Time goes on: what might have been since t is what might have been since t before the call, or during it.
pub record Elapses (before now : ℕ) (past since : ℕ → List ℕ → List ℕ → List ℕ → Type 0) (during : List ℕ → List ℕ → List ℕ → Type 0) : Type 0 where
  pub later : before ≤ now
  pub nothing_else : (t : ℕ) (l r u : List ℕ) → t ≤ before → since t l r u → past t l r u ⊎ during l r u
  pub keeps : (t : ℕ) (l r u : List ℕ) → t ≤ before → past t l r u → since t l r u

-- this side is as before, in what reads give and in its images
pub record KeepsSide {H : Type 0} (reads : H → Side → List ℕ) (images : H → Side → List ℕ → Type 0) (side : Side) (old new : H) : Type 0 where
  pub reads_same : reads new side ≡ reads old side
  pub images_same : (c : List ℕ) → images new side c ↔ images old side c

-- this side is as before, and so is the text said
pub record KeepsOther {H : Type 0} (reads : H → Side → List ℕ) (images : H → Side → List ℕ → Type 0) (said : H → List ℕ) (side : Side) (old new : H) : Type 0 where
  pub reads_same : reads new side ≡ reads old side
  pub images_same : (c : List ℕ) → images new side c ↔ images old side c
  pub text : said new ≡ said old

-- both sides are as before, the text said and the count of written bytes
pub record IsStill {H : Type 0} (reads : H → Side → List ℕ) (images : H → Side → List ℕ → Type 0) (said : H → List ℕ) (written : H → ℕ) (old new : H) : Type 0 where
  pub reads_same : (side : Side) → reads new side ≡ reads old side
  pub images_same : (side : Side) (c : List ℕ) → images new side c ↔ images old side c
  pub text : said new ≡ said old
  pub cost : written new ≡ written old

-- At each moment since old, l, r and u might have been only where Q has them.
pub record Meets {H : Type 0} (moment : H → ℕ) (might : H → ℕ → List ℕ → List ℕ → List ℕ → Type 0) (old new : H) (Q : List ℕ → List ℕ → List ℕ → Type 0) : Type 0 where
  pub later : moment old ≤ moment new
  pub each : (l r u : List ℕ) → might new (moment old) l r u → Q l r u
  -- for a run that began earlier
  pub before : (t : ℕ) (l r u : List ℕ) → t ≤ moment old → might new t l r u → might old t l r u ⊎ Q l r u

-- the image on this side has P; the other side's images and the text said are those of the start
abbrev pub OnSide : {H : Type 0} (images : H → Side → List ℕ → Type 0) (said : H → List ℕ) → H → Side → (List ℕ → Type 0) → List ℕ → List ℕ → List ℕ → Type 0
OnSide images said start side P l r u = P (on side l r) × images start (other side) (on (other side) l r) × (u ≡ said start)
