-- The lines that name a file, and the files that lines ask for.
use Rattle.std.specs.Prelude.{◌≡◌, ◌⊎◌, ℕ, List, [], ◌∷◌, ◌++◌, Option, Ok, IsTrue}
use Rattle.host_model.specs.Shelf.{IsReached}
use Rattle.host_model.specs.declared.shelf.Shelf.{Ghosts}
use Rattle.client_words.specs.declared.command.Command.{Command}
use Rattle.client_steps.specs.Commands.{names_file, AsksFor}
use Rattle.client_words.specs.Commands.{command_of}

-- the line's command names a file
pub record NamesFile (line : List ℕ) : Type 0 where
  pub command : Command
  pub is_command : command_of line ≡ Ok command
  pub names : IsTrue (names_file command)

-- the line asks for the files of these names, in order, of files that are told where `tells` holds: for none, or for those of its command
abbrev pub LineAsksFor : Type 0 → (List ℕ → Option (List ℕ)) → List ℕ → List (List ℕ) → Type 0
LineAsksFor tells files line names = (names ≡ []) ⊎ ((command : Command) × (command_of line ≡ Ok command) × AsksFor tells files command names)

-- these lines ask for the files of these names, one line after the other
abbrev pub LinesAskFor : Type 0 → (List ℕ → Option (List ℕ)) → List (List ℕ) → List (List ℕ) → Type 0
LinesAskFor tells files [] names = names ≡ []
LinesAskFor tells files (line ∷ lines) names =
    (first rest : List (List ℕ)) × LineAsksFor tells files line first × LinesAskFor tells files lines rest
    × (names ≡ first ++ rest)

-- one shelf is left of another by what the line asks for, and was asked for nothing else
pub record LineAsked {F : Type 0} (f : Ghosts F) (line : List ℕ) (old new : F) : Type 0 where
  pub names : List (List ℕ)
  pub for_line : LineAsksFor f.tells (f.file old) line names
  pub reached : IsReached f.asks old names new

-- the same of these lines
pub record LinesAsked {F : Type 0} (f : Ghosts F) (old new : F) (lines : List (List ℕ)) : Type 0 where
  pub names : List (List ℕ)
  pub for_lines : LinesAskFor f.tells (f.file old) lines names
  pub reached : IsReached f.asks old names new
