-- One name more, which has at most 80 bytes.
use Rattle.std.proofs.Common.{length, ap, arith}
use Rattle.plain_text.proofs.ShortNames.{name_short}
use Rattle.event_counts.specs.declared.name_counts.NameCounts.{NameCounts}
use Rattle.event_counts.proofs.RowSizes.{size_more, sound_at}
use Rattle.event_counts.proofs.size.names_size.Goals as goal

pub loop-counts-preserved : goal.loop-counts-preserved
loop-counts-preserved c =
    let names = c.args.names.now in
    let i = c.loop-counts.counts-index in
    let counts = c.counts-item.result in
    let sound = sound_at names i counts c.requires.each c.loop-counts-test.true c.counts-item.is in
    let name = ap (λ (n : NameCounts). length n.name) c.get.ensures in
    record {
      size = omega (arith, c.loop-counts.invariant.size, size_more names i counts c.loop-counts-test.true c.counts-item.is sound, ap length c.as_str.ensures.text, name);
      bound = omega (arith, c.loop-counts.invariant.bound, name_short counts.name sound.name, ap length c.as_str.ensures.text, name);
    }
