-- What stands round the commands of a run: the files that they may name, and the moment.
use Rattle.std.specs.Prelude.{ℕ, List, Option}
use Rattle.host_model.specs.declared.shelf.Shelf.{Ghosts}

-- the files by their names, and the moment in whole seconds since 1970
pub record Setting : Type 0 where
  pub files : List ℕ → Option (List ℕ)
  pub now : ℕ

-- the files of this shelf, and this moment
abbrev pub setting : {F : Type 0} → Ghosts F → F → ℕ → Setting
setting f shelf now = record { files = f.file shelf; now = now }
