use Rattle.std.proofs.Common.{drop}
use Rattle.fml_imports.specs.Standings.{AreStandings}
use Rattle.fml_imports.proofs.imports.standings.Given as goal

abbrev pub invariant-loop-place : goal.invariant-loop-place
invariant-loop-place l = AreStandings l.files (drop l.place l.files) l.standings
