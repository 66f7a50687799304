use Rattle.std.proofs.Common.{◌≡◌, ℕ, List, length, ap}
use Rattle.pair_store.specs.Choice.{payloads_of}
use Rattle.pair_store.proofs.Choosing.{none_is_damaged}
use Rattle.pair_store.proofs.reading.found_open.Goals as goal

pub returns-then-is_empty : goal.returns-then-is_empty
returns-then-is_empty c side image read =
    let none : length (payloads_of c.args.records) ≡ 0 = ap (λ (l : List (List ℕ)). length l) (c.is_empty.ensures.0 c.if-is_empty.true) in
    none_is_damaged c.args.records.journal.generation (payloads_of c.args.records) image read.open_with none
