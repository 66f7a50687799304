use Rattle.std.proofs.Common.{rules}
use Rattle.std.specs.Ordering.{is_lt}
use Rattle.std.proofs.lemmas.Fn.{always_returns_same}
use Rattle.recipe_reader.specs.Payloads.{slug_cmp}
use Rattle.pref_bindings.specs.Changes.{Setting}
use Rattle.sequences.proofs.Rising.{rise_answer}
use Rattle.state_scenarios.proofs.preferences.settings.rises.Goals as goal

pub returns : goal.returns
returns c =
    rise_answer (λ (v : Setting). v.0) c.args.settings.now c.is_sorted_by.result
    (c.is_sorted_by.ensures.cases (λ x y. is_lt (slug_cmp x.0 y.0)) (always_returns_same _ _ _ (λ a r g called. search rules)))
