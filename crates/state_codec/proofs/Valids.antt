-- Each of valid recipes is valid.
use Rattle.std.proofs.Common.{◌≡◌, ◌<◌, ℕ, zero, suc, get_or, List, [], ◌∷◌, length, sym, subst, arith}
use Rattle.recipe_reader.specs.declared.recipe.Recipe.{Recipe}
use Rattle.recipe_reader.specs.Payloads.{AreValid}
use Rattle.recipe_reader.specs.Records.{IsValid}

pub valid_at : (rs : List Recipe) (i : ℕ) (r : Recipe) → i < length rs → r ≡ get_or rs i r → AreValid rs → IsValid r
valid_at [] i r within here valid = absurd (omega (arith, within))
valid_at (q ∷ rs) zero r within here valid = subst IsValid (sym here) valid.0
valid_at (q ∷ rs) (suc i) r within here valid = valid_at rs i r (omega (arith, within)) here valid.1
