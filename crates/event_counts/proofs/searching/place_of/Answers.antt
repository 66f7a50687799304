use Rattle.std.proofs.Common.{rules}
use Rattle.std.proofs.lemmas.Fn.{always_returns_same}
use Rattle.event_counts.specs.Sound.{name_of}
use Rattle.sequences.proofs.Searching.{order_by, found_at, missed_at}
use Rattle.event_counts.proofs.searching.place_of.Goals as goal

pub returns-clause-found : goal.returns-clause-found
returns-clause-found c =
    found_at name_of c.args.name.now c.args.names.now c.binary_search_by.result c.binary_search_by.ensures.bound
    (c.binary_search_by.ensures.position (order_by name_of c.args.name.now) (always_returns_same _ _ _ (λ a r g called. search rules)))

pub returns-clause-missed : goal.returns-clause-missed
returns-clause-missed c =
    missed_at name_of c.args.name.now c.args.names.now c.binary_search_by.result c.requires c.binary_search_by.ensures.bound
    (c.binary_search_by.ensures.position (order_by name_of c.args.name.now) (always_returns_same _ _ _ (λ a r g called. search rules)))
