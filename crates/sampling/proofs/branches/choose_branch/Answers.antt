use Rattle.std.proofs.Common.{arith}
use Rattle.sampling.proofs.Shares.{never_past}
use Rattle.sampling.proofs.branches.choose_branch.Goals as goal

pub unreachable-requires : goal.unreachable-requires
unreachable-requires c = never_past c.args.point c.args.ratios.now c.requires.point c.requires.shared (λ k before. c.loop-i.invariant.passed k (omega (arith, before, c.loop-i-test.false)))
