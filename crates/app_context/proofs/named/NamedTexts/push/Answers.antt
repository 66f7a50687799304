use Rattle.std.proofs.Common.{sym, subst}
use Rattle.enrol_states.specs.Order.{AreBelow}
use Rattle.app_context.specs.Named.{names_of, AreInOrder}
use Rattle.app_context.proofs.Names.{order_push}
use Rattle.app_context.proofs.named.NamedTexts.push.Goals as goal

pub invariant_of-self-2 : goal.invariant_of-self-2
invariant_of-self-2 c =
    let below = subst (λ ps. AreBelow c.args.name (names_of ps)) (sym c.self.view_is) c.requires in
    subst AreInOrder (sym c.in_ok-push.ensures.items) (order_push c.self.inside.pairs.items (c.args.name, c.args.text) c.self.invariant below)
