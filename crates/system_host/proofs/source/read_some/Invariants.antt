use Rattle.std.specs.Io.KnownBytes.{Keeps}
use Rattle.system_host.proofs.source.read_some.Given as goal

-- a read that a signal cut short took no byte
abbrev pub invariant-loop : goal.invariant-loop
invariant-loop g l = Keeps (g.R.Read.remaining l.fn.input) (g.R.Read.remaining l.input)
