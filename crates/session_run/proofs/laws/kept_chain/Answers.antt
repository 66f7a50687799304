-- The law of chains.
use Rattle.session_run.proofs.Chaining.{ends_kept, folded_sound, out_over}
use Rattle.session_run.proofs.laws.kept_chain.Goals as goal

pub returns-clause-ends : goal.returns-clause-ends
returns-clause-ends c l r s links kept chain = ends_kept links l r s kept chain

pub returns-clause-sound : goal.returns-clause-sound
returns-clause-sound c l r s links kept chain = folded_sound links l r s kept chain

pub returns-clause-opted_out : goal.returns-clause-opted_out
returns-clause-opted_out c l r s links slug kept chain held = out_over links l r s slug kept chain held
