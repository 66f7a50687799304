use Rattle.std.proofs.Common.{◌≡◌, ◌∙◌, ◌++◌, List, ℕ, length, min, take, drop, ap, arith}
use Rattle.gate_journal.specs.declared.format.TheConstants.{MAX_SIDE_END}
use Rattle.gate_journal.proofs.Fronts.{read_front}
use Rattle.gate_journal.proofs.reading.read_side.Goals as goal

pub returns-clause-bytes : goal.returns-clause-bytes
returns-clause-bytes g c tells =
    let h = g.H.Host in
    let side = c.args.side in
    let start = h.reads c.args.host.now side in
    let mid = h.reads c.len.new.self side in
    let items = c.in_ok-bytes.bytes.items in
    let count = c.in_ok-count.count in
    let same : mid ≡ start = (c.len.ensures.still tells).reads_same side in
    let long : length items ≡ min (length mid) MAX_SIDE_END = omega (arith, c.in_ok-len.ensures.len tells, c.min-len.ensures, c.in_ok-bytes.ensures.len, ap length same) in
    let count_is : count ≡ min (length items) (length mid) = omega (arith, c.in_ok-count.ensures.count tells, ap length c.deref_mut.ensures.value) in
    let is : c.read.new.into ≡ take count mid ++ drop count items = c.in_ok-count.ensures.bytes tells ∙ ap (λ (l : List ℕ). take count mid ++ drop count l) c.deref_mut.ensures.value in
    read_front MAX_SIDE_END count c.in_ok-bytes.bytes.len mid items c.read.new.into c.truncate.new.self.items (omega (arith, c.deref_mut.ensures.len, ap length c.deref_mut.ensures.value)) long count_is is c.truncate.ensures.items
    ∙ ap (λ (l : List ℕ). take MAX_SIDE_END l) same
