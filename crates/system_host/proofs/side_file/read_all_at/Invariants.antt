use Rattle.std.proofs.Common.{◌≤◌, length}
use Rattle.system_host.proofs.side_file.read_all_at.Given as goal

abbrev pub invariant-loop : goal.invariant-loop
invariant-loop g l = l.done ≤ length l.into
