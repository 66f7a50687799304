use Rattle.std.proofs.Common.{◌++◌, List, ℕ, ap, ap₂, ◌∙◌, arith}
use Rattle.json.specs.Token.{Token}
use Rattle.json.specs.Print.{print}
use Rattle.json_tree.specs.Bytes.{tree_of}
use Rattle.json_tree.specs.Tree.{json_of}
use Rattle.json_tree.specs.Tokens.{tokens_of}
use Rattle.json_tree.proofs.RoundTrip.{tree_of-text_of}
use Rattle.json_tree.proofs.Tokens.{printed_tokens}
use Rattle.json_tree.proofs.writing.write.Goals as goal

pub returns-clause-text : goal.returns-clause-text
returns-clause-text c =
    let x = json_of c.args.tree.now in
    let before = c.write_tree.ensures.before ∙ c.new-writer.ensures.before ∙ c.in_ok-with_capacity.ensures.items in
    let tokens = c.in_ok-write_tree.ensures.tokens ∙ ap (λ (ts : List Token). ts ++ tokens_of x) c.new-writer.ensures.tokens in
    c.text_in.ensures ∙ c.into_inner.ensures.items ∙ ap₂ (λ (b : List ℕ) (ts : List Token). b ++ print ts) before tokens ∙ printed_tokens x

pub returns-clause-reads_back : goal.returns-clause-reads_back
returns-clause-reads_back c shallow =
    ap tree_of (returns-clause-text c) ∙ tree_of-text_of (json_of c.args.tree.now) c.keeps.ensures.sound (omega (arith, shallow))
