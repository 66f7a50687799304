use Rattle.std.proofs.Common.{refl, sym, subst}
use Rattle.change_outbox.specs.Sizes.{IsSizedOutbox}
use Rattle.change_outbox.proofs.Numbers.{new_sound}
use Rattle.change_outbox.proofs.outbox.Outbox.new.Goals as goal

pub invariant_of-result : goal.invariant_of-result
invariant_of-result c = subst (λ es. IsSizedOutbox (record { next = 1; entries = es }) 0) (sym c.new.ensures) (record { sound = new_sound; size_is = refl })
