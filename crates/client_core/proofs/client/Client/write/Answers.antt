-- A change is written.
use Rattle.std.proofs.Common.{◌∙◌, inl, ap, subst, arith}
use Rattle.std.proofs.lemmas.Result.{err_from_is_err_and}
use Rattle.host_model.specs.declared.side.Side.TheVariants.{Left, Right}
use Rattle.client_store.specs.Changes.{next_of}
use Rattle.client_store.proofs.Moments.{met_now, text_below}
use Rattle.row_store.specs.Rows.{HasRows}
use Rattle.client_state.specs.Encoding.{rows_of}
use Rattle.client_store.proofs.Holding.{rows_settled, rows_read, rows_stand, rows_kept, ungated, while_written}
use Rattle.client_store.proofs.Placing.{change_bytes, change_place, change_checkpoint, change_written}
use Rattle.client_core.proofs.client.Client.write.Goals as goal

pub returns-clause-any_moment : goal.returns-clause-any_moment
returns-clause-any_moment g c tells gate =
    while_written g.H.Host c.args.host.now c.commit.new.host c.args.self.now.store.state (next_of c.args.self.now.store.state c.args.change) c.commit.ensures.was.sound c.requires.change.sound (c.commit.ensures.any_moment tells gate)

pub returns-in_err-commit-clause-any_moment : goal.returns-in_err-commit-clause-any_moment
returns-in_err-commit-clause-any_moment g c tells gate =
    while_written g.H.Host c.args.host.now c.commit.new.host c.args.self.now.store.state (next_of c.args.self.now.store.state c.args.change) c.commit.ensures.was.sound c.requires.change.sound (c.commit.ensures.any_moment tells gate)

pub returns-clause-kept_either : goal.returns-clause-kept_either
returns-clause-kept_either g c tells gate l r left right =
    (met_now g.H.Host c.args.host.now c.commit.new.host _ (returns-clause-any_moment g c tells gate) (g.met.H.Host.counts_now c.commit.new.host) tells l r left right).0

pub returns-in_err-commit-clause-kept_either : goal.returns-in_err-commit-clause-kept_either
returns-in_err-commit-clause-kept_either g c tells gate l r left right =
    (met_now g.H.Host c.args.host.now c.commit.new.host _ (returns-in_err-commit-clause-any_moment g c tells gate) (g.met.H.Host.counts_now c.commit.new.host) tells l r left right).0

pub returns-clause-text : goal.returns-clause-text
returns-clause-text g c tells =
    let new = c.commit.new.host in
    text_below g.H.Host c.args.host.now new tells (g.met.H.Host.counts_now new) (g.met.H.Host.read_is_image new) (c.commit.ensures.below tells)

pub returns-in_err-commit-clause-text : goal.returns-in_err-commit-clause-text
returns-in_err-commit-clause-text g c tells =
    let new = c.commit.new.host in
    text_below g.H.Host c.args.host.now new tells (g.met.H.Host.counts_now new) (g.met.H.Host.read_is_image new) (c.commit.ensures.below tells)

pub returns-clause-holds : goal.returns-clause-holds
returns-clause-holds g c tells = record { stored = c.commit.ensures.stored; stands = ungated g.H.Host c.commit.new.self.rows c.commit.new.host (c.in_ok-commit.ensures.acknowledged tells) }

pub returns-clause-settled : goal.returns-clause-settled
returns-clause-settled g c tells = rows_settled g.H.Host c.commit.new.self.rows c.commit.new.host (ungated g.H.Host c.commit.new.self.rows c.commit.new.host (c.in_ok-commit.ensures.acknowledged tells))

pub returns-clause-stands : goal.returns-clause-stands
returns-clause-stands g c tells =
    rows_stand g.H.Host c.commit.new.self.rows c.commit.new.host (next_of c.args.self.now.store.state c.args.change) c.requires.change.sound (inl (c.commit.ensures.stored.same ∙ ap rows_of c.in_ok-commit.ensures.state))
    (ungated g.H.Host c.commit.new.self.rows c.commit.new.host (c.in_ok-commit.ensures.acknowledged tells))

pub returns-clause-rows : goal.returns-clause-rows
returns-clause-rows g c tells =
    let h = g.H.Host in
    let new = c.commit.new.host in
    let rows = c.commit.new.self.rows in
    subst (HasRows (h.reads new Left) (h.reads new Right)) (c.commit.ensures.stored.same ∙ ap rows_of c.in_ok-commit.ensures.state)
    (rows_read h rows new (ungated h rows new (c.in_ok-commit.ensures.acknowledged tells)) (h.reads new Left) (h.reads new Right) (g.met.H.Host.read_is_image new Left tells) (g.met.H.Host.read_is_image new Right tells))

pub returns-clause-kept : goal.returns-clause-kept
returns-clause-kept g c tells =
    rows_kept g.H.Host c.commit.new.self.rows c.commit.new.host (next_of c.args.self.now.store.state c.args.change) c.requires.change.sound (inl (c.commit.ensures.stored.same ∙ ap rows_of c.in_ok-commit.ensures.state)) (c.in_ok-commit.ensures.acknowledged tells)

pub returns-clause-bytes : goal.returns-clause-bytes
returns-clause-bytes g c tells = change_written c.args.self.now.store c.args.change c.commit.ensures.was c.requires.change g.H.Host c.args.host.now c.commit.new.host (c.in_ok-commit.ensures.bytes tells)

pub returns-clause-cost : goal.returns-clause-cost
returns-clause-cost g c tells =
    let cost = c.in_ok-commit.ensures.cost tells in
    let bytes = change_bytes c.args.self.now.store c.args.change c.commit.ensures.was c.requires.change in
    record { exact = omega (arith, cost.exact, bytes); least = cost.least; most = omega (arith, cost.most, bytes) }

pub returns-in_err-commit-clause-cost : goal.returns-in_err-commit-clause-cost
returns-in_err-commit-clause-cost g c tells =
    let cost = c.commit.ensures.cost tells in
    let bytes = change_bytes c.args.self.now.store c.args.change c.commit.ensures.was c.requires.change in
    let p = err_from_is_err_and c.from_residual.result c.from_residual.ensures.1 in
    rw p.1 (record { exact = tt; least = cost.least; most = omega (arith, cost.most, bytes) })

pub returns-clause-place : goal.returns-clause-place
returns-clause-place g c = c.in_ok-commit.ensures.place ∙ change_place c.args.self.now.store c.args.change c.commit.ensures.was c.requires.change

pub returns-clause-checkpoint : goal.returns-clause-checkpoint
returns-clause-checkpoint g c = change_checkpoint c.args.self.now.store c.args.change c.commit.ensures.was c.requires.change

pub returns-in_err-commit-clause-checkpoint : goal.returns-in_err-commit-clause-checkpoint
returns-in_err-commit-clause-checkpoint g c = change_checkpoint c.args.self.now.store c.args.change c.commit.ensures.was c.requires.change
