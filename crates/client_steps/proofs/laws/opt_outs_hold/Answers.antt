-- The law of opt-outs.
use Rattle.client_steps.proofs.OptOuts as opt_outs
use Rattle.client_steps.proofs.laws.opt_outs_hold.Goals as goal

pub returns : goal.returns
returns c = opt_outs.opt_outs_hold
