-- One member of an object that is written token by token.
use Rattle.std.specs.Prelude.{◌≡◌, ℕ, List, [], ◌∷◌, ◌++◌}
use Rattle.json.specs.Token.{Token, key}
use Rattle.json.specs.Written.{Written}

-- a member of this name, whose value is one token, stands behind what was written
pub record HasMember (old new : Written) (name : List ℕ) (value : Token) : Type 0 where
  pub tokens : new.tokens ≡ old.tokens ++ key name ∷ value ∷ []
