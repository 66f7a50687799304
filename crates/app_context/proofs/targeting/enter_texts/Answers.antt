use Rattle.std.proofs.Common.{map, ap, ◌∙◌, take_all}
use Rattle.app_context.specs.Attributes.{text_entry, entered}
use Rattle.app_context.proofs.Entries.{more_entered}
use Rattle.app_context.proofs.targeting.enter_texts.Goals as goal

pub loop-key-preserved : goal.loop-key-preserved
loop-key-preserved c =
    more_entered (text_entry c.args.context.now) c.args.keys.now c.loop-key.key-index _ c.args.pairs.now c.loop-key.pairs c.enter_text_of.new.pairs c.loop-key-test.true c.loop-key.invariant c.in_ok-enter_text_of.ensures

pub returns : goal.returns
returns c = c.loop-key.invariant ∙ ap (λ ks. entered (map (text_entry c.args.context.now) ks) c.args.pairs.now) (take_all _ c.args.keys.now c.loop-key-test.false)
