-- Which files a command asks a shelf for.
use Rattle.std.proofs.Common.{◌≡◌, List, ℕ, false, [], ◌∷◌, refl, sym, subst}
use Rattle.host_model.specs.declared.shelf.Shelf.{Ghosts}
use Rattle.fml_link.specs.Asked.{IsAskedFrom}
use Rattle.client_words.specs.declared.command.Command.{Command}
use Rattle.client_words.specs.declared.command.Command.TheVariants.{Apply, Participate, OptOut, OptIn, Reset, Show, Feature, Fetch, Event, Confirm, Bind, SetPreference, ClearPreference, WriteManifest}
use Rattle.client_words.specs.declared.command.Command.TheVariants as commands
use Rattle.client_steps.specs.Commands.{names_file, HasAsked}

module _ {F : Type 0} (f : Ghosts F) (shelf left : F) (command : Command) (file : List ℕ) where
  pub manifest_asked : (channel : List ℕ) → command ≡ commands.Manifest file channel → IsAskedFrom f file channel shelf left → HasAsked f command shelf left
  manifest_asked channel is asked = subst (λ (c : Command). HasAsked f c shelf left) (sym is) (record { names = asked.0; files = asked.1; reached = asked.2 })

  pub context_asked : command ≡ commands.Context file → f.asks shelf file left → HasAsked f command shelf left
  context_asked is asked = subst (λ (c : Command). HasAsked f c shelf left) (sym is) (record { names = file ∷ []; files = refl; reached = (left, asked, refl) })

  pub fetch_asked : command ≡ Fetch file → f.asks shelf file left → HasAsked f command shelf left
  fetch_asked is asked = subst (λ (c : Command). HasAsked f c shelf left) (sym is) (record { names = file ∷ []; files = refl; reached = (left, asked, refl) })

  pub bind_asked : command ≡ Bind file → f.asks shelf file left → HasAsked f command shelf left
  bind_asked is asked = subst (λ (c : Command). HasAsked f c shelf left) (sym is) (record { names = file ∷ []; files = refl; reached = (left, asked, refl) })

-- a command that names no file asks for none
pub none_asked : {F : Type 0} (f : Ghosts F) (shelf : F) (command : Command) → names_file command ≡ false → HasAsked f command shelf shelf
none_asked f shelf (commands.Manifest file channel) is = absurd cc
none_asked f shelf (commands.Context file) is = absurd cc
none_asked f shelf (Fetch file) is = absurd cc
none_asked f shelf (Bind file) is = absurd cc
none_asked f shelf Apply is = record { names = []; files = refl; reached = refl }
none_asked f shelf (Participate part on) is = record { names = []; files = refl; reached = refl }
none_asked f shelf (OptOut slug) is = record { names = []; files = refl; reached = refl }
none_asked f shelf (OptIn slug branch) is = record { names = []; files = refl; reached = refl }
none_asked f shelf (Reset id) is = record { names = []; files = refl; reached = refl }
none_asked f shelf Show is = record { names = []; files = refl; reached = refl }
none_asked f shelf (Feature name) is = record { names = []; files = refl; reached = refl }
none_asked f shelf (Event name count) is = record { names = []; files = refl; reached = refl }
none_asked f shelf commands.Changes is = record { names = []; files = refl; reached = refl }
none_asked f shelf (Confirm number) is = record { names = []; files = refl; reached = refl }
none_asked f shelf (SetPreference name value) is = record { names = []; files = refl; reached = refl }
none_asked f shelf (ClearPreference name) is = record { names = []; files = refl; reached = refl }
none_asked f shelf commands.Preferences is = record { names = []; files = refl; reached = refl }
none_asked f shelf WriteManifest is = record { names = []; files = refl; reached = refl }
