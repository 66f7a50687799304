-- Where the front parts are the same the back parts decide, and else both differ.
use Rattle.std.proofs.Common.{rules, ◌≡◌, ◌↔◌, ◌++◌, IsTrue, List, ℕ, false, ap₂}
use Rattle.event_counts.proofs.Bytes.{front_same, rest_same}
use Rattle.event_counts.proofs.ring.are_same.Goals as goal

pub returns-then-eq : goal.returns-then-eq
returns-then-eq c =
    let front : c.args.front.now ≡ c.args.other_front.now = search rules in
    let told : IsTrue c.eq-then-eq.result ↔ (c.args.back.now ≡ c.args.other_back.now) = search rules in
    (λ is. ap₂ (λ (v r : List ℕ). v ++ r) front (told.0 is), λ same. told.1 (rest_same c.args.front.now c.args.other_front.now c.args.back.now c.args.other_back.now c.requires same))

pub returns-else-eq : goal.returns-else-eq
returns-else-eq c =
    let told : IsTrue c.eq.result ↔ (c.args.front.now ≡ c.args.other_front.now) = search rules in
    let not : c.eq.result ≡ false = c.if-eq.false in
    (λ is. absurd (cc), λ same. told.1 (front_same c.args.front.now c.args.other_front.now c.args.back.now c.args.other_back.now c.requires same))
