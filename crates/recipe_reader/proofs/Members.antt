-- The tokens of an object, written one member behind the other.
use Rattle.std.proofs.Common.{◌≡◌, ℕ, List, ◌∷◌, ◌++◌, ap, ◌∙◌}
use Rattle.json.specs.Token.{Token, key}
use Rattle.json_tree.specs.Json.{Json, text}
use Rattle.json_tree.specs.Tokens.{tokens_of}
use Rattle.json_tree.proofs.Tokens.{part_then}

-- one member, and all that follows it
pub member_then : (old : List Token) (k : List ℕ) (x : Json) (rest : List Token) {new all : List Token} → new ≡ old ++ key k ∷ tokens_of x → all ≡ new ++ rest → all ≡ old ++ key k ∷ (tokens_of x ++ rest)
member_then old k x rest written rest_is = part_then old (key k ∷ tokens_of x) rest written rest_is

-- the same of a text that is another
pub text_then : (old : List Token) (k s t : List ℕ) (rest : List Token) {new all : List Token} → new ≡ old ++ key k ∷ tokens_of (text s) → s ≡ t → all ≡ new ++ rest → all ≡ old ++ key k ∷ (tokens_of (text t) ++ rest)
text_then old k s t rest written same rest_is = member_then old k (text t) rest (written ∙ ap (λ u. old ++ key k ∷ tokens_of (text u)) same) rest_is
