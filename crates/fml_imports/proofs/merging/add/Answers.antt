use Rattle.fml_imports.proofs.Adding.{met_there, put_there}
use Rattle.fml_imports.proofs.Rising.{rising_right}
use Rattle.fml_imports.proofs.merging.add.Goals as goal

pub count_left-count-requires : goal.count_left-count-requires
count_left-count-requires g c = rising_right c.args.done.now.items c.args.left.now.items c.requires.rising

pub returns-then-is_met-clause-leaves : goal.returns-then-is_met-clause-leaves
returns-then-is_met-clause-leaves g c =
    met_there c.args.others.now c.args.done.now.items c.args.left.now.items c.move_front.new.done.items c.move_front.new.left.items (c.args.name, c.args.value) c.count_left-count.result c.is_met.result c.requires.rising c.requires.above
    c.count_left-count.ensures c.in_ok-move_front.ensures.done c.in_ok-move_front.ensures.left c.is_met.ensures c.if-is_met.true

pub returns-clause-leaves : goal.returns-clause-leaves
returns-clause-leaves g c =
    (put_there c.args.others.now c.args.done.now.items c.args.left.now.items c.move_front.new.done.items c.move_front.new.left.items (c.args.name, c.args.value) c.count_left-count.result c.is_met.result c.requires.rising c.requires.above
    c.count_left-count.ensures c.in_ok-move_front.ensures.done c.in_ok-move_front.ensures.left c.is_met.ensures c.push.new.self.items c.if-is_met.false c.in_ok-push.ensures.items).0

pub returns-clause-rising : goal.returns-clause-rising
returns-clause-rising g c =
    (put_there c.args.others.now c.args.done.now.items c.args.left.now.items c.move_front.new.done.items c.move_front.new.left.items (c.args.name, c.args.value) c.count_left-count.result c.is_met.result c.requires.rising c.requires.above
    c.count_left-count.ensures c.in_ok-move_front.ensures.done c.in_ok-move_front.ensures.left c.is_met.ensures c.push.new.self.items c.if-is_met.false c.in_ok-push.ensures.items).1

pub returns-clause-above : goal.returns-clause-above
returns-clause-above g c =
    (put_there c.args.others.now c.args.done.now.items c.args.left.now.items c.move_front.new.done.items c.move_front.new.left.items (c.args.name, c.args.value) c.count_left-count.result c.is_met.result c.requires.rising c.requires.above
    c.count_left-count.ensures c.in_ok-move_front.ensures.done c.in_ok-move_front.ensures.left c.is_met.ensures c.push.new.self.items c.if-is_met.false c.in_ok-push.ensures.items).2
