-- The text of a value's tokens, where nothing stands before them.
use Rattle.std.proofs.Common.{◌≡◌, ℕ, List, [], ◌++◌, ap, ap₂, ◌∙◌}
use Rattle.json.specs.Token.{Token}
use Rattle.json.specs.Print.{print}
use Rattle.json_tree.specs.Json.{Json}
use Rattle.json_tree.specs.Bytes.{text_of}
use Rattle.json_tree.specs.Tokens.{tokens_of}
use Rattle.json_tree.proofs.Tokens.{printed_tokens}

pub text_written : (x : Json) (before : List ℕ) (old tokens : List Token) → before ≡ [] → old ≡ [] → tokens ≡ old ++ tokens_of x → before ++ print tokens ≡ text_of x
text_written x before old tokens none first is =
    ap₂ (λ (b : List ℕ) (ts : List Token). b ++ print ts) none (is ∙ ap (λ ts. ts ++ tokens_of x) first) ∙ printed_tokens x
