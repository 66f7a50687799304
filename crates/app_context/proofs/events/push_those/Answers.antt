use Rattle.std.proofs.Common.{◌++◌, map, take, ap, ◌∙◌, take_all}
use Rattle.json_tree.specs.Tree.{member_of}
use Rattle.app_context.specs.Sides.{those, is_on}
use Rattle.app_context.proofs.Turns.{side_turn, side_above}
use Rattle.app_context.proofs.events.push_those.Goals as goal

pub push_if-requires : goal.push_if-requires
push_if-requires c = λ is.
    side_above c.args.side c.args.key.now c.args.made.now c.args.pairs.now c.loop-name.name-index c.loop-name-item.result c.loop-name.made c.is_on.result c.loop-name-test.true c.loop-name-item.is c.loop-name.invariant (c.is_on.ensures ∙ ap (is_on c.args.side c.args.key.now) c.as_str.ensures.text) c.requires is

pub loop-name-preserved : goal.loop-name-preserved
loop-name-preserved c =
    side_turn c.args.side c.args.key.now c.args.made.now c.args.pairs.now c.loop-name.name-index c.loop-name-item.result c.loop-name.made _ c.is_on.result c.loop-name-test.true c.loop-name-item.is c.loop-name.invariant (c.is_on.ensures ∙ ap (is_on c.args.side c.args.key.now) c.as_str.ensures.text) c.in_ok-push_if.ensures

pub returns : goal.returns
returns c = c.loop-name.invariant ∙ ap (λ ps. c.args.made.now ++ those c.args.side c.args.key.now (map member_of ps)) (take_all _ c.args.pairs.now c.loop-name-test.false)
