use Rattle.std.proofs.Common.{◌≡◌, ◌+◌, ◌≤◌, ◌++◌, [], ◌∷◌, List, ℕ, drop, length, sym, ◌∙◌, ap, arith, length-append}
use Rattle.gate_journal.specs.Frame.{payload_in}
use Rattle.gate_journal.specs.Records.{framed}
use Rattle.gate_journal.proofs.Appending.{length-framed, unframed}
use Rattle.gate_journal.proofs.frame.Frame.finish.Goals as goal

pub invariant_of-result : goal.invariant_of-result
invariant_of-result c =
    let payload = drop 4 c.args.bytes.items in
    let is : c.push.new.self.items ≡ framed payload ++ 0 ∷ [] = c.in_ok-push.ensures.items ∙ ap (λ (l : List ℕ). l ++ 0 ∷ []) c.requires.payload in
    let size : length c.push.new.self.items ≡ length payload + 5 = omega (arith, ap length is, length-append (framed payload) (0 ∷ []), length-framed payload) in
    let back : payload_in c.push.new.self.items ≡ payload = ap payload_in is ∙ unframed payload in
    record {
      parts = is ∙ ap (λ (l : List ℕ). framed l ++ 0 ∷ []) (sym back);
      least = omega arith;
      most = omega (arith, size, c.requires.within);
    }

pub returns-clause-payload : goal.returns-clause-payload
returns-clause-payload c =
    let payload = drop 4 c.args.bytes.items in
    let is : c.push.new.self.items ≡ framed payload ++ 0 ∷ [] = c.in_ok-push.ensures.items ∙ ap (λ (l : List ℕ). l ++ 0 ∷ []) c.requires.payload in
    ap payload_in is ∙ unframed payload
