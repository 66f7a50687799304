use Rattle.std.proofs.Common.{ap, ◌∙◌, ◌&&◌, ◌||◌, not, bytes_eq}
use Rattle.enrol_states.specs.TextSets.{has_text}
use Rattle.enrol_conflicts.proofs.Holding.{add_more}
use Rattle.enrol_conflicts.proofs.held.add_features.Goals as goal

pub loop-feature-preserved : goal.loop-feature-preserved
loop-feature-preserved c = λ f.
    add_more (has_text c.loop-feature.held f) (has_text c.add_feature.new.held f) (has_text c.args.held.now f) (not (has_text c.args.shared.now f)) f c.args.features.now c.loop-feature.feature-index c.feature-item.result c.loop-feature-test.true c.feature-item.is (c.loop-feature.invariant f)
    (c.in_ok-add_feature.ensures f ∙ ap (λ g. has_text c.loop-feature.held f || (bytes_eq g f && not (has_text c.args.shared.now f))) c.as_str.ensures.text)
