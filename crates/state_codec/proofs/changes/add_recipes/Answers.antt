-- Recipes that are as before add nothing.
use Rattle.std.proofs.Common.{◌≡◌, ◌⊎◌, inl, inr, subst}
use Rattle.std.proofs.lemmas.Result.{on_ok_weaker}
use Rattle.enrol_states.specs.declared.state.State.{State}
use Rattle.state_codec.specs.RecipeLists.{HasLists, HasSameBut, HasSameRecipes}
use Rattle.sequences.specs.declared.list_part.ListPart.{ListPart}
use Rattle.state_codec.specs.declared.recipe_lists.RecipeLists.{RecipeLists}
use Rattle.state_codec.specs.declared.recipe_lists.RecipeLists.TheVariants.{AsBefore, AllBut}
use Rattle.state_codec.proofs.Joined.{none_added, pending_added}
use Rattle.state_codec.proofs.changes.add_recipes.Goals as goal

recipes_stay : (s t : State) (lists : RecipeLists) → HasLists lists s t → (lists ≡ AsBefore) ⊎ ((opted_out : ListPart) × (rows : ListPart) × (lists ≡ AllBut opted_out rows)) → HasSameRecipes s t
recipes_stay s t lists has (inl is) = subst (λ (ls : RecipeLists). HasLists ls s t) is has
recipes_stay s t lists has (inr is) = let all_but : HasSameBut is.0 is.1 s t = subst (λ (ls : RecipeLists). HasLists ls s t) is.2 has in all_but.recipes

pub returns-in-AsBefore : goal.returns-in-AsBefore
returns-in-AsBefore c =
    let same = recipes_stay c.args.old.now c.args.new.now c.args.recipes c.requires.recipes c.in-AsBefore.is in
    none_added c.args.old.now c.args.new.now c.args.changes.now same.live same.pending

pub returns-in-LiveAsBefore : goal.returns-in-LiveAsBefore
returns-in-LiveAsBefore c =
    let same = subst (λ (lists : RecipeLists). HasLists lists c.args.old.now c.args.new.now) c.in-LiveAsBefore.is c.requires.recipes in
    on_ok_weaker c.add_pending.result
    (pending_added c.args.old.now c.args.new.now c.args.changes.now c.add_pending.new.changes same)
    c.add_pending.ensures
