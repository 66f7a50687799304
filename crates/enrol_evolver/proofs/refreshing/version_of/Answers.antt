use Rattle.std.proofs.Common.{rules, ◌≡◌, [], ap, ◌∙◌}
use Rattle.std.specs.Prelude.{unwrap_or}
use Rattle.enrol_states.proofs.Answered.{if_matched}
use Rattle.enrol_evolver.proofs.refreshing.version_of.Goals as goal

pub returns-in-Some : goal.returns-in-Some
returns-in-Some c = if_matched c.clone.result _ _ _ (ap (λ o. unwrap_or o []) c.in-Some.ensures) c.clone.ensures.cases

pub returns-in-None : goal.returns-in-None
returns-in-None c =
    let empty : c.from_string.result ≡ [] = search rules in
    empty ∙ ap (λ o. unwrap_or o []) c.in-None.ensures
