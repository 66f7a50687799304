use Rattle.std.proofs.Common.{rules}
use Rattle.std.proofs.lemmas.Fn.{always_returns_same}
use Rattle.fml_types.proofs.Searching.{name_order, searched}
use Rattle.fml_types.proofs.by_name.place_of.Goals as goal

pub returns : goal.returns
returns g c =
    let found = c.binary_search_by.ensures.position (name_order c.args.name.now) (always_returns_same _ _ _ (λ a r h called. search rules)) in
    let here = searched c.args.name.now c.args.pairs.now c.binary_search_by.result c.requires c.binary_search_by.ensures.bound found in
    record { there = here.0; absent = here.1 }
