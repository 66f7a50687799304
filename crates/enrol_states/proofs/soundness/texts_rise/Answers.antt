-- Each is below the next.
use Rattle.std.proofs.Common.{rules, List, ℕ, IsTrue, subst}
use Rattle.std.specs.Prelude.{◌↔◌}
use Rattle.std.specs.Ordering.{is_lt}
use Rattle.std.proofs.lemmas.Fn.{always_returns_same}
use Rattle.recipe_reader.specs.Payloads.{slug_cmp}
use Rattle.enrol_states.specs.Order.{Rise}
use Rattle.enrol_states.proofs.Ordered.{map_itself}
use Rattle.sequences.proofs.Rising.{rise_answer}
use Rattle.enrol_states.proofs.soundness.texts_rise.Goals as goal

pub returns : goal.returns
returns c =
    let ts = c.args.texts.now in
    let answer = c.is_sorted_by.ensures.cases (λ x y. is_lt (slug_cmp x y)) (always_returns_same _ _ _ (λ a r g called. search rules)) in
    subst (λ (us : List (List ℕ)). IsTrue c.is_sorted_by.result ↔ Rise us) (map_itself ts) (rise_answer (λ t. t) ts c.is_sorted_by.result answer)
