-- A fault of the store's opening is the answer.
use Rattle.std.proofs.Common.{Ok, Err, ap, inl, inr}
use Rattle.host_model.specs.declared.host.Host.{Ghosts}
use Rattle.host_model.specs.declared.side.Side.TheVariants.{Left, Right}
use Rattle.pair_store.specs.declared.faults.PairFault.TheVariants.{DiskFault}
use Rattle.row_store.proofs.Folds.{fault_is}
use Rattle.client_store.specs.Openings.{OpensInPhases}
use Rattle.client_store.proofs.Judging.{unopened_judges}
use Rattle.client_core.proofs.client.Client.open.Goals as goal

pub returns-in-Err-clause-judges : goal.returns-in-Err-clause-judges
returns-in-Err-clause-judges g c tells =
    unopened_judges (g.H.Host.reads c.args.host.now Left) (g.H.Host.reads c.args.host.now Right) c.in-Err.fault (c.in-Err.ensures.ends tells).finds

pub returns-in-Ok-clause-disk_quiet : goal.returns-in-Ok-clause-disk_quiet
returns-in-Ok-clause-disk_quiet g c sound = c.in-Ok.ensures.disk_quiet (λ is. absurd cc)

pub returns-in-Err-clause-disk_quiet : goal.returns-in-Err-clause-disk_quiet
returns-in-Err-clause-disk_quiet g c sound = c.in-Err.ensures.disk_quiet (λ is. sound (ap Err (fault_is c.in-Err.fault DiskFault is)))

-- the phases of an opening are the same whatever it opens
same_phases : {H T U : Type 0} (h : Ghosts H) (old new : H) (store : T) (client : U) → OpensInPhases h old new (Ok store) → OpensInPhases h old new (Ok client)
same_phases h old new store client (inl (is, ends)) = absurd cc
same_phases h old new store client (inr phases) = inr phases

pub returns-in-Ok-clause-phases : goal.returns-in-Ok-clause-phases
returns-in-Ok-clause-phases g c tells = same_phases g.H.Host c.args.host.now c.open.new.host _ _ (c.in-Ok.ensures.phases tells)
