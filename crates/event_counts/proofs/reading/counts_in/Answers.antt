-- A value is its moment and its lists, one behind the other.
use Rattle.std.proofs.Common.{◌≡◌, ◌++◌, List, ℕ, take, drop, ap₂, ◌∙◌}
use Rattle.std.proofs.lemmas.List.{take_rest}
use Rattle.event_counts.specs.Rows.{list_bytes}
use Rattle.event_counts.proofs.Values.{joined}
use Rattle.event_counts.proofs.reading.counts_in.Goals as goal

pub returns-clause-value : goal.returns-clause-value
returns-clause-value c =
    let v : List ℕ = c.args.value.now in
    let hours : list_bytes c.in_ok-ring_in.field-0 ≡ take 288 (drop 8 v) = c.in_ok-ring_in.ensures.bytes in
    let days : list_bytes c.in_ok-ring_in-2.field-0 ≡ take 224 (drop 296 v) = c.in_ok-ring_in-2.ensures.bytes in
    let weeks : list_bytes c.in_ok-ring_in-3.field-0 ≡ drop 520 v = c.in_ok-ring_in-3.ensures.bytes ∙ take_rest v 520 in
    ap₂ (λ (a b : List ℕ). a ++ b) c.requires.moment (ap₂ (λ (a b : List ℕ). a ++ b) hours (ap₂ (λ (a b : List ℕ). a ++ b) days weeks)) ∙ joined v 8 288 224
