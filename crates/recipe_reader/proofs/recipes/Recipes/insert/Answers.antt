use Rattle.std.proofs.Common.{◌≡◌, sym, ap, subst, ◌∙◌}
use Rattle.std.specs.Prelude.{not}
use Rattle.std.specs.List.{insert}
use Rattle.recipe_reader.specs.Payloads.{AreInOrder, AreValid, IsPlace}
use Rattle.recipe_reader.proofs.Places.{apart, kept_with, order_with, valid_with}
use Rattle.recipe_reader.proofs.recipes.Recipes.insert.Goals as goal

place_is : (c : goal.In_ok-insert-in-Err) → IsPlace c.args.recipe.slug c.args.self.now c.in-Err.place
place_is c =
    subst (λ s. IsPlace s c.args.self.now c.in-Err.place) c.text.ensures.text (subst (λ l. IsPlace c.text.result.now l c.in-Err.place) c.as_slice.ensures.recipes c.in-Err.ensures.absent)

grown : (c : goal.In_ok-insert-in-Err) → c.insert.new.self ≡ insert c.args.self.now c.in-Err.place c.args.recipe
grown c = c.in_ok-insert-in-Err.ensures.ok ∙ ap (λ l. insert l c.in-Err.place c.args.recipe) c.self.view_is

pub invariant_of-self-in-Err : goal.invariant_of-self-in-Err
invariant_of-self-in-Err c =
    let in_order = subst AreInOrder c.self.view_is c.self.invariant in
    subst AreInOrder (sym (grown c)) (order_with c.args.recipe c.args.self.now c.in-Err.place in_order (place_is c))

pub returns-in_ok-insert-in-Err-clause-ok : goal.returns-in_ok-insert-in-Err-clause-ok
returns-in_ok-insert-in-Err-clause-ok c = grown c ∙ kept_with c.args.recipe c.args.self.now c.in-Err.place (place_is c)

pub returns-in_ok-insert-in-Err-clause-is_new : goal.returns-in_ok-insert-in-Err-clause-is_new
returns-in_ok-insert-in-Err-clause-is_new c = sym (ap not (apart c.args.recipe.slug c.args.self.now c.in-Err.place (place_is c)))

pub returns-in_ok-insert-in-Err-clause-valid : goal.returns-in_ok-insert-in-Err-clause-valid
returns-in_ok-insert-in-Err-clause-valid c one all = subst AreValid (sym (grown c)) (valid_with c.args.recipe c.args.self.now c.in-Err.place one all)
