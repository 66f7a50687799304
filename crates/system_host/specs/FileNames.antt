-- The names of files in one folder.
use Rattle.std.specs.Prelude.{◌≢◌, ◌≤◌, ℕ, List, [], length, codes, All}

-- A file of the folder itself can have this name: it isn't the folder or the one above, has at most 255 bytes, and
-- none of them is a slash or 0.
pub record IsFileName (name : List ℕ) : Type 0 where
  pub some : name ≢ []
  pub not_folder : name ≢ codes "."
  pub not_above : name ≢ codes ".."
  pub short : length name ≤ 255
  pub plain : All (λ byte. (byte ≢ 47) × (byte ≢ 0)) name
