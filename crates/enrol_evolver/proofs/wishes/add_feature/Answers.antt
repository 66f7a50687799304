use Rattle.std.proofs.Common.{rules, ◌≡◌, [], ◌∷◌, ◌++◌, ◌||◌, bytes_eq, sym, ap, ◌∙◌}
use Rattle.enrol_states.specs.Order.{is_in}
use Rattle.enrol_states.proofs.Sets.{has_text-insert}
use Rattle.enrol_evolver.proofs.Granting.{more-texts}
use Rattle.enrol_evolver.proofs.wishes.add_feature.Goals as goal

pub returns-clause-seen : goal.returns-clause-seen
returns-clause-seen c = λ t.
    let fs = c.args.features.now in
    let more : c.push.new.self ≡ fs ++ c.args.feature.now ∷ [] = search rules in
    has_text-insert c.args.seen.now c.insert.new.self c.as_str-name.result c.in_ok-insert.ensures.updates t
    ∙ ap (λ b. b || bytes_eq c.as_str-name.result.now t) (c.requires t)
    ∙ ap (λ n. is_in fs t || bytes_eq n t) c.as_str-name.ensures.text
    ∙ sym (ap (λ l. is_in l t) more ∙ more-texts t c.args.feature.now fs)
