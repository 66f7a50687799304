use Rattle.std.proofs.Common.{rules}
use Rattle.std.specs.Ordering.{is_lt}
use Rattle.std.proofs.lemmas.Fn.{always_returns_same}
use Rattle.recipe_reader.specs.Payloads.{slug_cmp}
use Rattle.pref_bindings.proofs.Order.{name_of}
use Rattle.sequences.proofs.Rising.{rise_answer}
use Rattle.pref_bindings.proofs.reading.is_in_order.Goals as goal

pub returns : goal.returns
returns c =
    rise_answer name_of c.args.preferences.now c.is_sorted_by.result
    (c.is_sorted_by.ensures.cases (λ x y. is_lt (slug_cmp x.name y.name)) (always_returns_same _ _ _ (λ a r g called. search rules)))
