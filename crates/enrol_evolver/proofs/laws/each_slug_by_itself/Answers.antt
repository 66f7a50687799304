use Rattle.enrol_evolver.specs.Evolution.{refreshed, evolution}
use Rattle.enrol_evolver.proofs.Evolved.{settled_grants, status-after}
use Rattle.enrol_evolver.proofs.Consistency.{evolved}
use Rattle.enrol_evolver.proofs.laws.each_slug_by_itself.Goals as goal

pub returns-clause-settled : goal.returns-clause-settled
returns-clause-settled c = settled_grants

pub returns-clause-statuses : goal.returns-clause-statuses
unfolding evolution
returns-clause-statuses c s context coenrolling now slug rise = status-after context (refreshed s context coenrolling now) now slug rise

pub returns-clause-consistent : goal.returns-clause-consistent
returns-clause-consistent c = evolved
