-- Each name is below the next.
use Rattle.std.proofs.Common.{rules}
use Rattle.std.specs.Ordering.{is_lt}
use Rattle.std.proofs.lemmas.Fn.{always_returns_same}
use Rattle.event_counts.specs.Sound.{name_cmp, name_of}
use Rattle.sequences.proofs.Rising.{rise_answer}
use Rattle.event_counts.proofs.reading.are_in_order.Goals as goal

pub returns : goal.returns
returns c =
    rise_answer name_of c.args.names.now c.is_sorted_by.result
    (c.is_sorted_by.ensures.cases (λ n o. is_lt (name_cmp n.name o.name)) (always_returns_same _ _ _ (λ a r g called. search rules)))
