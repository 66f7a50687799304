use Rattle.std.proofs.Common.{◌≡◌, ℕ, ◌*◌, ◌^◌, ◌<◌, ◌≤◌, sum, take}
use Rattle.sampling.specs.Sampling.{sum_through}
use Rattle.sampling.proofs.branches.choose_branch.Given as goal

abbrev pub invariant-loop-i : goal.invariant-loop-i
invariant-loop-i l = record {
  place : l.place ≡ l.point * sum l.ratios;
  sum_of_first : l.so_far ≡ sum (take l.i l.ratios);
  passed : (k : ℕ) → k < l.i → 2 ^ 48 * sum_through l.ratios k ≤ l.point * sum l.ratios;
}
