use Rattle.std.proofs.Common.{◌≡◌, ◌++◌, ◌∷◌, [], sym, ap, subst, ◌∙◌}
use Rattle.recipe_reader.specs.Payloads.{AreInOrder}
use Rattle.recipe_reader.proofs.Places.{order_push}
use Rattle.recipe_reader.proofs.recipes.Recipes.push.Goals as goal

grown : (c : goal.In_ok-push) → c.push.new.self ≡ c.args.self.now ++ c.args.recipe ∷ []
grown c = c.in_ok-push.ensures.ok ∙ ap (λ l. l ++ c.args.recipe ∷ []) c.self.view_is

pub invariant_of-self-2 : goal.invariant_of-self-2
invariant_of-self-2 c =
    let in_order = subst AreInOrder c.self.view_is c.self.invariant in
    subst AreInOrder (sym (grown c)) (order_push c.args.recipe c.args.self.now in_order c.requires)
