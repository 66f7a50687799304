-- One member more, and what follows it.
use Rattle.std.proofs.Common.{◌≡◌, ℕ, List, [], ◌∷◌, ◌++◌, ap, ◌∙◌}
use Rattle.std.specs.Prelude.{Ok}
use Rattle.std.specs.declared.alloc.AllocError.{AllocError}
use Rattle.json.specs.Token.{Token, key, string}
use Rattle.json.specs.Written.{Written, Writes}
use Rattle.json_tree.proofs.Tokens.{part_then, token_then}
use Rattle.recipe_drill.specs.Members.{HasMember}

-- a name is written, and then its value
pub member_written : {old named new : Written} {name : List ℕ} (value : Token) → Writes {E = AllocError} (Ok tt) old named (key name) → new.tokens ≡ named.tokens ++ value ∷ [] → HasMember old new name value
member_written value named_is value_is = record { tokens = token_then (value ∷ []) named_is value_is }

pub member_then : {old new : Written} {name : List ℕ} {value : Token} (rest : List Token) {all : List Token} → HasMember old new name value → all ≡ new.tokens ++ rest → all ≡ old.tokens ++ key name ∷ value ∷ rest
member_then {old} {new} {name} {value} rest {all} has rest_is = part_then old.tokens (key name ∷ value ∷ []) rest has.tokens rest_is

-- the same of a text that is another
pub text_then : {old new : Written} {name s t : List ℕ} (rest : List Token) {all : List Token} → HasMember old new name (string s) → s ≡ t → all ≡ new.tokens ++ rest → all ≡ old.tokens ++ key name ∷ string t ∷ rest
text_then {old} {new} {name} {s} {t} rest {all} has same rest_is = member_then rest has rest_is ∙ ap (λ u. old.tokens ++ key name ∷ string u ∷ rest) same
