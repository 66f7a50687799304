-- Where a text has a byte.
use Rattle.std.proofs.Common.{◌≡◌, ◌+◌, suc, Bool, true, false, cond, List, [], ◌∷◌, length, refl, arith}
use Rattle.std.specs.Prelude.{not, ◌||◌}
use Rattle.std.specs.List.{list_any, position_or_len}

-- no element passes where the first that does is the end
pub none_any : {X : Type 0} (p : X → Bool) (xs : List X) → position_or_len p xs ≡ length xs → list_any p xs ≡ false
none_any p [] e = refl
none_any p (x ∷ xs) e =
    elim (p x) as (λ b. cond (not b) (1 + position_or_len p xs) 0 ≡ suc (length xs) → (b || list_any p xs) ≡ false) [
      | true ↦ λ f. absurd (omega arith)
      | false ↦ λ f. none_any p xs (omega arith)
    ] e
