use Rattle.std.proofs.Common.{rules}
use Rattle.std.proofs.lemmas.Fn.{always_returns_same}
use Rattle.recipe_reader.proofs.Searching.{slug_order, searched_found, searched_there, searched_absent}
use Rattle.recipe_reader.proofs.recipes.place_of.Goals as goal

pub returns-clause-found : goal.returns-clause-found
returns-clause-found c =
    searched_found c.args.slug.now c.args.recipes.now _ c.requires c.binary_search_by.ensures.bound (c.binary_search_by.ensures.position (slug_order c.args.slug.now) (always_returns_same _ _ _ (λ a r g called. search rules)))

pub returns-clause-there : goal.returns-clause-there
returns-clause-there c =
    searched_there c.args.slug.now c.args.recipes.now _ c.requires c.binary_search_by.ensures.bound (c.binary_search_by.ensures.position (slug_order c.args.slug.now) (always_returns_same _ _ _ (λ a r g called. search rules)))

pub returns-clause-absent : goal.returns-clause-absent
returns-clause-absent c =
    searched_absent c.args.slug.now c.args.recipes.now _ c.requires c.binary_search_by.ensures.bound (c.binary_search_by.ensures.position (slug_order c.args.slug.now) (always_returns_same _ _ _ (λ a r g called. search rules)))
