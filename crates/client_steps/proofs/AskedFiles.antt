-- What a command asks for, of shelves with the same files.
use mathlib.Core.Path.{fun_ext}
use Rattle.std.proofs.Common.{◌≡◌, ℕ, List, Option, subst}
use Rattle.fml_link.specs.Asked.{AreListed}
use Rattle.client_words.specs.declared.command.Command.{Command}
use Rattle.client_words.specs.declared.command.Command.TheVariants.{Apply, Participate, OptOut, OptIn, Reset, Show, Feature, Fetch, Event, Confirm, Bind, SetPreference, ClearPreference, WriteManifest}
use Rattle.client_words.specs.declared.command.Command.TheVariants as commands
use Rattle.client_steps.specs.Commands.{AsksFor}

-- files that hold the same are asked for alike, where they are told
pub asks_same : (tells : Type 0) (files others : List ℕ → Option (List ℕ)) → (tells → (name : List ℕ) → others name ≡ files name) → (command : Command) (names : List (List ℕ)) → AsksFor tells others command names → AsksFor tells files command names
asks_same tells files others same (commands.Manifest file channel) names asked = record {
  root_first = asked.root_first;
  distinct = asked.distinct;
  few = asked.few;
  listed = λ told. subst (λ (f : List ℕ → Option (List ℕ)). AreListed f file channel names) (fun_ext (same told)) (asked.listed told);
}
asks_same tells files others same command names asked = asked
