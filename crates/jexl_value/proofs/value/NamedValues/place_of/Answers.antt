use Rattle.std.proofs.Common.{rules, sym, subst}
use Rattle.std.proofs.lemmas.Fn.{always_returns_same}
use Rattle.json_tree.proofs.Growing.{IsRising}
use Rattle.json_tree.proofs.Searching.{key_order}
use Rattle.jexl_value.proofs.Growing.{IsRising-named}
use Rattle.jexl_value.specs.Names.{IsPlace}
use Rattle.jexl_value.proofs.Searching.{place_of}
use Rattle.jexl_value.proofs.value.NamedValues.place_of.Goals as goal

pub returns : goal.returns
returns c =
    let pairs = c.as_slice.result.now in
    let name = c.args.name.now in
    let rising = subst IsRising (sym c.as_slice.ensures.pairs) (IsRising-named _ c.as_slice.ensures.sound) in
    let found = c.binary_search_by.ensures.position (key_order name) (always_returns_same _ _ _ (λ a r g called. search rules)) in
    subst (λ ms. IsPlace name ms c.binary_search_by.result) c.as_slice.ensures.pairs (place_of name pairs c.binary_search_by.result rising c.binary_search_by.ensures.bound found)
