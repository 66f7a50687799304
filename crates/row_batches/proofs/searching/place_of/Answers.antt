use Rattle.std.proofs.Common.{rules}
use Rattle.std.proofs.lemmas.Fn.{always_returns_same}
use Rattle.row_batches.specs.Rows.{key_of}
use Rattle.sequences.proofs.Searching.{order_by, found_at, missed_at}
use Rattle.row_batches.proofs.searching.place_of.Goals as goal

pub returns-clause-found : goal.returns-clause-found
returns-clause-found c =
    found_at key_of c.args.key.now c.args.rows.now c.binary_search_by.result c.binary_search_by.ensures.bound
    (c.binary_search_by.ensures.position (order_by key_of c.args.key.now) (always_returns_same _ _ _ (λ a r g called. search rules)))

pub returns-clause-missed : goal.returns-clause-missed
returns-clause-missed c =
    missed_at key_of c.args.key.now c.args.rows.now c.binary_search_by.result c.requires c.binary_search_by.ensures.bound
    (c.binary_search_by.ensures.position (order_by key_of c.args.key.now) (always_returns_same _ _ _ (λ a r g called. search rules)))
