-- Each entry takes at most 178 bytes.
use Rattle.std.proofs.Common.{length, ap, arith}
use Rattle.change_outbox.specs.Contents.{Contents}
use Rattle.change_outbox.proofs.RowSizes.{size_bound}
use Rattle.change_outbox.proofs.outbox.Outbox.entries_size.Goals as goal

pub returns-clause-bound : goal.returns-clause-bound
returns-clause-bound c =
    omega (arith, c.self.invariant.size_is, size_bound c.self.inside.entries c.self.invariant.sound.slugs, ap (λ (o : Contents). length o.entries) c.self.view_is)
