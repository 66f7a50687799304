use Rattle.std.proofs.Common.{◌≡◌, false, ap, ◌∙◌, ◌||◌}
use Rattle.enrol_states.specs.Order.{is_in}
use Rattle.enrol_states.specs.TextSets.{has_text}
use Rattle.enrol_states.proofs.Sets.{has_text-insert, apart_from}
use Rattle.enrol_states.proofs.features.add_feature.Goals as goal

pub returns-in_ok-insert : goal.returns-in_ok-insert
returns-in_ok-insert c = λ f.
    let none : is_in c.args.coenrolling.now c.args.feature.now ≡ false = cc in
    has_text-insert c.args.features.now c.insert.new.self c.args.feature c.in_ok-insert.ensures.updates f
    ∙ ap (λ b. has_text c.args.features.now f || b) (apart_from c.args.coenrolling.now c.args.feature.now f none)
