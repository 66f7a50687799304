-- One interval, and at the end all of them.
use Rattle.std.proofs.Common.{◌≡◌, ◌∷◌, List, ℕ, length, sym, ap, ap₂, ◌∙◌, arith}
use Rattle.std.proofs.lemmas.List.{length-take-le}
use Rattle.circular_buffer.specs.Buffer.{Buffer, buffer}
use Rattle.event_counts.specs.Lists.{turned}
use Rattle.event_counts.proofs.Turning.{turned_not, turned_step}
use Rattle.event_counts.proofs.ring.turn_by.Goals as goal

pub loop-left-preserved : goal.loop-left-preserved
loop-left-preserved c =
    let items : List ℕ = c.loop-left.counts.items in
    let room : ℕ = c.loop-left.counts.capacity in
    let pushed = c.push_front.ensures.items in
    let full = c.loop-left.invariant.full in
    record {
      capacity = ap (λ (b : Buffer ℕ). b.capacity) pushed ∙ c.loop-left.invariant.capacity;
      full = ap (λ (b : Buffer ℕ). length b.items) pushed ∙ length-take-le room (0 ∷ items) (omega (arith, full)) ∙ sym (ap (λ (b : Buffer ℕ). b.capacity) pushed);
      rest = turned_step c.loop-left.left room items c.push_front.new.self.items (ap (λ (b : Buffer ℕ). b.items) pushed) (sym full) c.loop-left-test.true ∙ c.loop-left.invariant.rest;
    }

pub returns : goal.returns
returns c =
    let items : List ℕ = c.loop-left.counts.items in
    let none : 0 ≡ c.loop-left.left = omega arith in
    ap₂ buffer (sym (turned_not items) ∙ ap (λ k. turned k items) none ∙ c.loop-left.invariant.rest) c.loop-left.invariant.capacity
