-- The first part of a version, and what follows it.
use Rattle.std.specs.Prelude.{◌≡◌, List, ℕ, [], ◌∷◌}
use Rattle.sequences.specs.Runs.{run}
use Rattle.version_compare.specs.Bytes.{is_no_dot}

abbrev pub without_first : List ℕ → List ℕ
without_first [] = []
without_first (b ∷ bs) = bs

-- the text of the first part, and the bytes after its dot
pub record IsCut (bs text rest : List ℕ) : Type 0 where
  pub first : text ≡ (run is_no_dot bs).0
  pub after : rest ≡ without_first (run is_no_dot bs).1
