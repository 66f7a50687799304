-- The last branch takes every point that no earlier one took.
use Rattle.std.proofs.Common.{◌≡◌, ℕ, ◌+◌, ◌*◌, ◌^◌, ◌<◌, ◌≤◌, List, [], ◌∷◌, length, sum, ap, arith}
use Rattle.std.proofs.lemmas.List.{take_all}
use Rattle.std.proofs.Math.Nat.{mul-lt-mul_of_pos_right}
use Rattle.sampling.specs.Sampling.{sum_through}

-- no point is past all the branches
pub never_past : (point : ℕ) (ratios : List ℕ) → point < 2 ^ 48 → 0 < sum ratios → ((k : ℕ) → k < length ratios → 2 ^ 48 * sum_through ratios k ≤ point * sum ratios) → ⊥
never_past point [] below shared passed = omega (arith, shared)
never_past point (ratio ∷ ratios) below shared passed =
    let whole : sum_through (ratio ∷ ratios) (length ratios) ≡ sum (ratio ∷ ratios) = ap (λ xs. sum xs) (take_all (length ratios + 1) (ratio ∷ ratios) (omega arith)) in
    let last = passed (length ratios) (omega arith) in
    let less : point * sum (ratio ∷ ratios) < 2 ^ 48 * sum (ratio ∷ ratios) = mul-lt-mul_of_pos_right below shared in
    omega (arith, whole, last, less)
