-- A reader of which at most one byte more than the limit is read.
use Rattle.std.proofs.Common.{◌≡◌, ℕ, ◌≤◌, ◌++◌, ◌∙◌, None, Some, IfSome, List, [], length, take, ap, subst, arith}
use Rattle.std.specs.Option.{option_map}
use Rattle.std.specs.declared.option.Option.{Option}
use Rattle.std.proofs.lemmas.List.{length-take, take_all}

-- what is read and within the limit is all that there is
pub whole : (known : Option (List ℕ)) (given : List ℕ) → IfSome (option_map (take 4194305) known) (λ bytes. given ≡ bytes) → length given ≤ 4194304 → IfSome known (λ bytes. given ≡ bytes)
whole None given read within = tt
whole (Some bytes) given read within = read ∙ take_all 4194305 bytes (omega (arith, within, ap length read, length-take 4194305 bytes))

-- the same of a reader behind a limit, from no bytes on
pub within_limit : {R : Type 0} (remaining : R → Option (List ℕ)) (reader inner : R) (limit : ℕ) (given start : List ℕ) → limit ≡ 4194305 → inner ≡ reader → start ≡ []
    → IfSome (option_map (take limit) (remaining inner)) (λ bytes. given ≡ start ++ bytes) → length given ≤ 4194304 → IfSome (remaining reader) (λ bytes. given ≡ bytes)
within_limit remaining reader inner limit given start limit_is inner_is start_is read within =
    subst (λ r. IfSome (remaining r) (λ bytes. given ≡ bytes)) inner_is (whole (remaining inner) given (subst (λ n. IfSome (option_map (take n) (remaining inner)) (λ bytes. given ≡ bytes)) limit_is (subst (λ s. IfSome (option_map (take limit) (remaining inner)) (λ bytes. given ≡ s ++ bytes)) start_is read)) within)
