use Rattle.std.proofs.Common.{◌+◌, ◌-◌, arith}
use Rattle.event_counts.proofs.Values.{count_at}
use Rattle.event_counts.proofs.reading.number_at.Goals as goal

pub returns-clause-bytes : goal.returns-clause-bytes
returns-clause-bytes c =
    count_at c.args.bytes.now c.copy_from_slice.new.self c.args.place (c.args.place + 4 - c.args.place) c.from_be_bytes.result c.copy_from_slice.ensures.after (omega arith) c.requires (λ i. omega (arith, c.type_inv.bytes i)) c.from_be_bytes.ensures
