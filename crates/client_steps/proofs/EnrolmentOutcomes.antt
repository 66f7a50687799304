-- What holds of all that a command may ask for of the enrolment holds of what it asks for.
use Rattle.std.proofs.Common.{◌≡◌, Bool, true, false, List, ℕ, length, Option, Some, None, Result, Ok, Err, refl}
use Rattle.std.specs.Prelude.{if◌then◌else◌}
use Rattle.json_tree.specs.Json.{Json}
use Rattle.app_context.specs.declared.context.Context.{Context}
use Rattle.enrol_states.specs.Choices.{has_no_room}
use Rattle.enrol_states.specs.Commands.{after_opt_in, after_opt_out}
use Rattle.enrol_states.specs.Participation.{takes_part}
use Rattle.enrol_states.specs.Recipes.{has_branch}
use Rattle.enrol_states.specs.declared.state.State.{State}
use Rattle.fml_types.specs.declared.manifest.Manifest.{Manifest}
use Rattle.recipe_reader.specs.Kinds.{kind_of}
use Rattle.recipe_reader.specs.Payloads.{payload_of, recipe_with}
use Rattle.recipe_reader.specs.declared.payload.Payload.{Payload}
use Rattle.recipe_reader.specs.declared.payload.PayloadFault.{PayloadFault}
use Rattle.recipe_reader.specs.declared.payload.PayloadFault.TheVariants as payload
use Rattle.recipe_reader.specs.declared.recipe.Recipe.{Recipe}
use Rattle.client_words.specs.declared.answer.Answer.TheVariants.{Okay, Fetched}
use Rattle.client_words.specs.declared.refusal.Refusal.{Refusal}
use Rattle.client_words.specs.declared.refusal.Refusal.TheVariants.{OptedOutLimit, NoSuchBranch, NotParticipating}
use Rattle.client_steps.specs.declared.session.Session.{Session}
use Rattle.client_steps.specs.Choosing.{first_taker}
use Rattle.client_steps.specs.Steps.{EnrolmentOutcome, Accepted, Refused, taking, offering, choosing, opting_in, opting_out, fetched, fetching, applied, applied_answer, applying}

either : (P : EnrolmentOutcome → Type 0) (b : Bool) (x y : EnrolmentOutcome) → P x → P y → P (if b then x else y)
either P true x y here there = here
either P false x y here there = there

module _ (e : State) (session : Session) (P : EnrolmentOutcome → Type 0) (refused : (refusal : Refusal) → P (Refused refusal)) where
  -- ---- `fetch`

  of_payload : (tree : Json) (read : Result Payload PayloadFault) → payload_of tree ≡ read → ((found : Payload) → payload_of tree ≡ Ok found → P (Accepted (record e { pending = Some found.recipes }) session (Fetched (length found.recipes) found.skipped)))
      → P (fetched e session read)
  of_payload tree (Ok found) is takes = takes found is
  of_payload tree (Err payload.NoData) is takes = refused _
  of_payload tree (Err (payload.TooManyRecipes count)) is takes = refused _
  of_payload tree (Err payload.OutOfMemory) is takes = refused _

  pub fetching_either : (read : Result Json Refusal)
      → ((tree : Json) (found : Payload) → read ≡ Ok tree → payload_of tree ≡ Ok found → P (Accepted (record e { pending = Some found.recipes }) session (Fetched (length found.recipes) found.skipped))) → P (fetching e session read)
  fetching_either (Ok tree) takes = of_payload tree (payload_of tree) refl (λ found is. takes tree found refl is)
  fetching_either (Err refusal) takes = refused refusal

  -- ---- `apply`

  pub applying_either : (now : ℕ) (manifest : Option Manifest) (context : Option Context) → ((m : Manifest) (c : Context) → P (Accepted (applied now e m c) session (applied_answer (applied now e m c)))) → P (applying now e session manifest context)
  applying_either now None context done = refused _
  applying_either now (Some manifest) None done = refused _
  applying_either now (Some manifest) (Some context) done = done manifest context

  -- ---- `opt-out` and `opt-in`

  pub opting_out_either : (slug : List ℕ) → P (Accepted (after_opt_out e slug) session Okay) → P (opting_out e session slug)
  opting_out_either slug out = either P (has_no_room e.opted_out slug) (Refused OptedOutLimit) (Accepted (after_opt_out e slug) session Okay) (refused OptedOutLimit) out

  module _ (slug branch : List ℕ) (taken : P (Accepted (after_opt_in e slug branch) session Okay)) where
    of_taker : (taker : Option (List ℕ × List ℕ)) → P (taking e session slug branch taker)
    of_taker None = taken
    of_taker (Some taker) = refused _

    of_recipe : (found : Option Recipe) → P (choosing e session slug branch found)
    of_recipe None = refused _
    of_recipe (Some r) =
        either P (takes_part e (kind_of r)) (offering e session slug branch r) (Refused NotParticipating)
        (either P (has_branch r branch) (taking e session slug branch (first_taker e r e.rows)) (Refused NoSuchBranch) (of_taker (first_taker e r e.rows)) (refused NoSuchBranch)) (refused NotParticipating)

    pub opting_in_either : P (opting_in e session slug branch)
    opting_in_either = of_recipe (recipe_with slug e.live)
