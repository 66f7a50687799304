-- There is a recipe with the slug exactly where one is found.
use Rattle.std.proofs.Common.{List, ℕ, sym, ap, ◌∙◌}
use Rattle.std.specs.Option.{is_some}
use Rattle.recipe_reader.specs.Payloads.{recipe_with}
use Rattle.enrol_states.proofs.SoundEnrolments.{is_some-recipe_with}
use Rattle.enrol_states.proofs.Lookups.{is_some-map}
use Rattle.enrol_states.proofs.soundness.has_recipe.Goals as goal

pub returns : goal.returns
returns c =
    let live = c.args.state.now.live in
    c.is_some.ensures
    ∙ sym (is_some-map _ c.get.result)
    ∙ ap is_some c.get.ensures
    ∙ ap (λ (slug : List ℕ). is_some (recipe_with slug live)) c.text.ensures.text
    ∙ is_some-recipe_with c.args.slug.now live
