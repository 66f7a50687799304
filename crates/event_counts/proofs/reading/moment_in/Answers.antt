use Rattle.std.proofs.Common.{arith}
use Rattle.event_counts.proofs.Values.{moment_in_front}
use Rattle.event_counts.proofs.reading.moment_in.Goals as goal

pub returns : goal.returns
returns c =
    moment_in_front c.args.bytes.now c.copy_from_slice.new.self c.from_be_bytes.result c.copy_from_slice.ensures.after c.requires (λ i. omega (arith, c.type_inv.bytes i)) c.from_be_bytes.ensures
