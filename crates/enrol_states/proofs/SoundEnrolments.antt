-- The row of a client that takes part.
use Rattle.std.proofs.Common.{◌≡◌, List, ℕ, Bool, true, false, IsTrue, Option, Some, None, [], ◌∷◌, refl, sym, ◌∙◌, subst}
use Rattle.std.specs.Prelude.{◌||◌, bytes_eq, if◌then◌else◌}
use Rattle.std.specs.Option.{is_some}
use Rattle.recipe_reader.specs.Payloads.{has_slug, recipe_with}
use Rattle.recipe_reader.specs.declared.recipe.Recipe.{Recipe}
use Rattle.enrol_states.specs.Recipes.{offers}
use Rattle.enrol_states.specs.declared.state.State.{State}
use Rattle.enrol_states.specs.declared.state.Row.{Row}
use Rattle.enrol_states.specs.declared.status.Status.{Status}
use Rattle.enrol_states.specs.declared.status.Status.TheVariants.{Enrolled}
use Rattle.enrol_states.specs.declared.status.EnrolledReason.{EnrolledReason}
use Rattle.enrol_states.specs.SoundParts.{MayBeEnrolled, IsRowOf}

one_or_later : (b : Bool) (r : Recipe) (later : Option Recipe) (has : Bool) → is_some later ≡ has → is_some (if b then Some r else later) ≡ (b || has)
one_or_later true r later has same = refl
one_or_later false r later has same = same

-- there is a recipe with the slug exactly where one has it
pub is_some-recipe_with : (slug : List ℕ) (rs : List Recipe) → is_some (recipe_with slug rs) ≡ has_slug slug rs
is_some-recipe_with slug [] = refl
is_some-recipe_with slug (r ∷ rs) = one_or_later (bytes_eq r.slug slug) r (recipe_with slug rs) (has_slug slug rs) (is_some-recipe_with slug rs)

there_where_offered : (o : Option Recipe) (branch : List ℕ) → IsTrue (offers o branch) → is_some o ≡ true
there_where_offered None branch offer = absurd cc
there_where_offered (Some r) branch offer = refl

branch_same : (s : State) (slug branch other : List ℕ) → Some branch ≡ Some other → IsTrue (offers (recipe_with slug s.live) branch) → IsTrue (offers (recipe_with slug s.live) other)
branch_same s slug branch other same offer = let one : branch ≡ other = cc in subst (λ (b : List ℕ). IsTrue (offers (recipe_with slug s.live) b)) one offer

abbrev enrolled_row : List ℕ → Status → Row
enrolled_row slug status = record { slug = slug; status = status }

pub enrolled_fits : (s : State) (slug branch : List ℕ) (reason : EnrolledReason) (status : Status) → status ≡ Enrolled reason branch → MayBeEnrolled s slug branch → IsRowOf s (enrolled_row slug status)
enrolled_fits s slug branch reason status is may =
    subst (λ (t : Status). IsRowOf s (enrolled_row slug t)) (sym is) (record {
      status = may.slug_fits;
      recipe = sym (is_some-recipe_with slug s.live) ∙ there_where_offered (recipe_with slug s.live) branch may.offer;
      branch = λ other same. branch_same s slug branch other same may.offer;
      choice = λ enrolled. may.choice;
      participation = λ enrolled. may.participation;
    })

pub may_be_enrolled_where : (s : State) (slug branch : List ℕ) (reason : EnrolledReason) (status : Status) → status ≡ Enrolled reason branch → IsRowOf s (enrolled_row slug status) → MayBeEnrolled s slug branch
may_be_enrolled_where s slug branch reason status is fits =
    let here = subst (λ (t : Status). IsRowOf s (enrolled_row slug t)) is fits in
    record { slug_fits = here.status; participation = here.participation refl; choice = here.choice refl; offer = here.branch branch refl }
