-- Slugs and names are short, and in UTF-8.
pub use Rattle.plain_text.proofs.ShortNames.{slug_short, name_short, IsUtf8-name}
use Rattle.std.proofs.Common.{◌≡◌, ℕ, true, Option, Some, None, refl}
use Rattle.std.specs.Prelude.{not}
use Rattle.std.specs.Option.{is_some}
use Rattle.plain_text.specs.Names.{bad_place}
use Rattle.recipe_reader.specs.Parts.{object_in, slug_in, schema_in, fields_in, bucket_in}
use Rattle.recipe_reader.specs.Branches.{branches_in}
use Rattle.recipe_reader.specs.Records.{recipe_of, record_json, IsValid}
use Rattle.recipe_reader.specs.declared.recipe.SkipReason.TheVariants.{BadSlug}
use Rattle.recipe_reader.specs.declared.recipe.Recipe.{Recipe}
use Rattle.recipe_reader.proofs.Again.{recipe_parts}
use Rattle.recipe_reader.proofs.Steps.{slug_ok}
use Rattle.enrol_states.specs.Statuses.{IsSlug}

no_place : (o : Option ℕ) → not (is_some o) ≡ true → o ≡ None
no_place None is = refl
no_place (Some n) is = absurd cc

pub recipe_slug : (r : Recipe) → IsValid r → IsSlug r.slug
unfolding recipe_of
recipe_slug r valid =
    let x = record_json r in
    let parts = recipe_parts (object_in x) (slug_in BadSlug x) (schema_in x) (fields_in x) (bucket_in x) (branches_in x) r valid in
    no_place (bad_place r.slug) (slug_ok BadSlug x r.slug parts.0)
