-- Which files a shelf is asked for while a manifest is linked.
use Rattle.std.specs.Prelude.{◌≡◌, ◌≤◌, ℕ, List as Seq, [], ◌∷◌, Option, Ok, length, map, take, bytes_eq, ⊤}
use Rattle.std.specs.List.{IsDistinct}
use Rattle.host_model.specs.declared.shelf.Shelf.{Ghosts}
use Rattle.host_model.specs.Shelf.{IsReached}
use Rattle.fml_link.specs.Files.{max_files, list_after}

-- the names of listed files
abbrev pub names_of : Seq (Seq ℕ × Seq ℕ) → Seq (Seq ℕ)
names_of list = map (λ (f : Seq ℕ × Seq ℕ). f.0) list

-- the first of the names, where there is one, is the root
abbrev pub BeginWith : Seq ℕ → Seq (Seq ℕ) → Type 0
BeginWith root [] = ⊤
BeginWith root (name ∷ names) = name ≡ root

-- they are the first names of the list of a manifest's files, as it stands once some of its files have added those that they name
pub record AreListed (file : Seq ℕ → Option (Seq ℕ)) (root channel : Seq ℕ) (names : Seq (Seq ℕ)) : Type 0 where
  pub turns : ℕ
  pub list : Seq (Seq ℕ × Seq ℕ)
  pub stands : list_after file root channel turns ≡ Ok list
  pub count : ℕ
  pub first : names ≡ names_of (take count list)

-- The names that linking asks for, of a shelf that tells where `tells` holds. Of each shelf the first of them, where there is one, is the root,
-- they are at most 64, and none is another. Where the shelf tells, they are the first names of the list of the manifest's files.
pub record AreAsked (tells : Type 0) (file : Seq ℕ → Option (Seq ℕ)) (root channel : Seq ℕ) (names : Seq (Seq ℕ)) : Type 0 where
  pub root_first : BeginWith root names
  pub distinct : IsDistinct bytes_eq names
  pub few : length names ≤ max_files
  pub listed : tells → AreListed file root channel names

-- one shelf is left of another when it has been asked for files of such names, in order
abbrev pub IsAskedFrom : {S : Type 0} → Ghosts S → Seq ℕ → Seq ℕ → S → S → Type 0
IsAskedFrom f root channel shelf left = (names : Seq (Seq ℕ)) × AreAsked f.tells (f.file shelf) root channel names × IsReached f.asks shelf names left
