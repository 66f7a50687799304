use Rattle.std.proofs.Common.{rules, sym, subst}
use Rattle.std.proofs.lemmas.Fn.{always_returns_same}
use Rattle.fml_types.specs.Named.{AreRising}
use Rattle.fml_value.specs.Entries.{IsPlace}
use Rattle.fml_value.proofs.Searching.{key_order, place_of}
use Rattle.fml_value.proofs.value.Entries.place_of.Goals as goal

pub returns : goal.returns
returns c =
    let pairs = c.as_slice.result.now in
    let name = c.args.name.now in
    let rising = subst AreRising (sym c.as_slice.ensures.pairs) c.as_slice.ensures.rising in
    let found = c.binary_search_by.ensures.position (key_order name) (always_returns_same _ _ _ (λ a r g called. search rules)) in
    subst (λ es. IsPlace name es c.binary_search_by.result) c.as_slice.ensures.pairs (place_of name pairs c.binary_search_by.result rising c.binary_search_by.ensures.bound found)
