-- The parts, and the room that the files have.
use Rattle.std.proofs.Common.{◌≡◌, ◌≤◌, ℕ, List, length, arith, sym, subst, ◌∙◌}
use Rattle.recipe_drill.specs.Parts.{most_bytes}
use Rattle.recipe_drill.proofs.FileRoom.{context-le, recipes-le}
use Rattle.recipe_drill.proofs.ManifestRoom.{manifest-le}
use Rattle.recipe_drill.proofs.drill.Drill.new.Goals as goal

pub returns-clause-drill : goal.returns-clause-drill
returns-clause-drill c =
    let script = c.from_vec.ensures ∙ c.in_ok-script.ensures in
    let manifest = c.from_vec-2.ensures ∙ c.in_ok-manifest.ensures in
    let context = c.from_vec-3.ensures ∙ c.in_ok-context.ensures in
    let recipes = c.from_vec-4.ensures ∙ c.in_ok-recipes.ensures in
    λ k. record { id = c.in_ok-id.ensures k; script = script k; manifest = manifest k; context = context k; recipes = recipes k }

-- what has a bounded list's length has its bound
within : {xs ys : List ℕ} → xs ≡ ys → length ys ≤ most_bytes → length xs ≤ most_bytes
within same short = subst (λ zs. length zs ≤ most_bytes) (sym same) short

pub returns-clause-room : goal.returns-clause-room
returns-clause-room c = record {
  manifest = within (c.from_vec-2.ensures ∙ c.in_ok-manifest.ensures) manifest-le;
  context = within (c.from_vec-3.ensures ∙ c.in_ok-context.ensures) context-le;
  recipes = within (c.from_vec-4.ensures ∙ c.in_ok-recipes.ensures) (recipes-le c.args.start c.args.count (omega (arith, c.requires.at_least)) c.requires.at_most);
}
