use Rattle.std.proofs.Common.{◌≡◌, take}
use Rattle.enrol_evolver.specs.Verdicts.{ratios_of}
use Rattle.enrol_evolver.proofs.samples.ratios_of.Given as goal

abbrev pub invariant-loop-branch : goal.invariant-loop-branch
invariant-loop-branch l = l.ratios.items ≡ ratios_of (take l.branch-index l.branches)
