use Rattle.std.proofs.Common.{sym, subst}
use Rattle.app_context.specs.Named.{AreInOrder}
use Rattle.app_context.proofs.Names.{order_none}
use Rattle.app_context.proofs.named.NamedTexts.new.Goals as goal

pub invariant_of-result : goal.invariant_of-result
invariant_of-result c = subst AreInOrder (sym c.new.ensures.items) order_none
