-- A refusal has a type for every command, so what a step answers has one where what is asked for has.
use Rattle.std.proofs.Common.{◌≡◌, ◌⊎◌, inl, inr, ℕ, sym, subst}
use Rattle.client_state.specs.declared.client_state.ClientState.{ClientState}
use Rattle.client_words.specs.declared.answer.Answer.{Answer}
use Rattle.client_words.specs.declared.answer.Answer.TheVariants.{Refused}
use Rattle.client_words.specs.declared.command.Command.{Command}
use Rattle.client_words.specs.declared.command.Command.TheVariants.{Manifest, Context, Fetch, Apply, Participate, OptOut, OptIn, Reset, Show, Feature, WriteManifest, Event, Changes, Confirm, Bind, SetPreference, ClearPreference, Preferences}
use Rattle.client_words.specs.declared.refusal.Refusal.{Refusal}
use Rattle.client_words.specs.declared.refusal.Refusal.TheVariants.{ChangesSpent, StateTooLarge}
use Rattle.client_steps.specs.Asked.{IsAnswerOrRefused}
use Rattle.client_steps.specs.ServedValues.{IsTyped}
use Rattle.client_steps.specs.declared.session.Session.{Session}

module _ (s : ClientState) (session : Session) where
  refused_typed : (command : Command) (refusal : Refusal) → IsTyped s session command (Refused refusal)
  refused_typed (Manifest file channel) refusal = tt
  refused_typed (Context file) refusal = tt
  refused_typed (Fetch file) refusal = tt
  refused_typed Apply refusal = tt
  refused_typed (Participate kinds on) refusal = tt
  refused_typed (OptOut slug) refusal = tt
  refused_typed (OptIn slug branch) refusal = tt
  refused_typed (Reset id) refusal = tt
  refused_typed Show refusal = tt
  refused_typed (Feature name) refusal = tt
  refused_typed WriteManifest refusal = tt
  refused_typed (Event name count) refusal = tt
  refused_typed Changes refusal = tt
  refused_typed (Confirm number) refusal = tt
  refused_typed (Bind file) refusal = tt
  refused_typed (SetPreference name value) refusal = tt
  refused_typed (ClearPreference name) refusal = tt
  refused_typed Preferences refusal = tt

  pub given_typed : (command : Command) (asked given : Answer) → IsTyped s session command asked → IsAnswerOrRefused asked given → IsTyped s session command given
  given_typed command asked given typed (inl same) = subst (λ (a : Answer). IsTyped s session command a) (sym same) typed
  given_typed command asked given typed (inr (inl spent)) = subst (λ (a : Answer). IsTyped s session command a) (sym spent) (refused_typed command ChangesSpent)
  given_typed command asked given typed (inr (inr (size, large))) = subst (λ (a : Answer). IsTyped s session command a) (sym large) (refused_typed command (StateTooLarge size))
