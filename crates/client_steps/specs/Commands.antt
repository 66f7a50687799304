-- Which commands name a file, and which files they ask the shelf for.
use Rattle.std.specs.Prelude.{◌≡◌, ℕ, Bool, true, false, List, [], ◌∷◌, Option}
use Rattle.host_model.specs.declared.shelf.Shelf.{Ghosts}
use Rattle.host_model.specs.Shelf.{IsReached}
use Rattle.fml_link.specs.Asked.{AreAsked}
use Rattle.client_words.specs.declared.command.Command.{Command}
use Rattle.client_words.specs.declared.command.Command.TheVariants as commands

abbrev pub names_file : Command → Bool
names_file (commands.Manifest file channel) = true
names_file (commands.Context file) = true
names_file (commands.Fetch file) = true
names_file (commands.Bind file) = true
names_file command = false

-- the names of the files, in order, of files that are told where `tells` holds. Those of a manifest are the ones that linking it asks for
abbrev pub AsksFor : Type 0 → (List ℕ → Option (List ℕ)) → Command → List (List ℕ) → Type 0
AsksFor tells files (commands.Manifest file channel) names = AreAsked tells files file channel names
AsksFor tells files (commands.Context file) names = names ≡ file ∷ []
AsksFor tells files (commands.Fetch file) names = names ≡ file ∷ []
AsksFor tells files (commands.Bind file) names = names ≡ file ∷ []
AsksFor tells files command names = names ≡ []

-- one shelf is left of another when it has been asked for files with such names, one after the other, and for no other
pub record HasAsked {F : Type 0} (f : Ghosts F) (command : Command) (shelf left : F) : Type 0 where
  pub names : List (List ℕ)
  pub files : AsksFor f.tells (f.file shelf) command names
  pub reached : IsReached f.asks shelf names left
