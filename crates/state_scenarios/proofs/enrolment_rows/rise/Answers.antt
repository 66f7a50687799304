use Rattle.std.proofs.Common.{rules}
use Rattle.std.specs.Ordering.{is_lt}
use Rattle.std.proofs.lemmas.Fn.{always_returns_same}
use Rattle.recipe_reader.specs.Payloads.{slug_cmp}
use Rattle.enrol_states.specs.declared.state.Row.{Row}
use Rattle.sequences.proofs.Rising.{rise_answer}
use Rattle.state_scenarios.proofs.enrolment_rows.rise.Goals as goal

pub returns : goal.returns
returns c =
    rise_answer (λ (row : Row). row.slug) c.args.rows.now c.is_sorted_by.result
    (c.is_sorted_by.ensures.cases (λ x y. is_lt (slug_cmp x.slug y.slug)) (always_returns_same _ _ _ (λ a r g called. search rules)))
