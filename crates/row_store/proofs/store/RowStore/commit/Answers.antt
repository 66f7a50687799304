use Rattle.std.proofs.Common.{◌≡◌, List, [], sym, ap, ◌∙◌, subst}
use Rattle.host_model.specs.Hosts.{MeetsAll}
use Rattle.pair_store.specs.Moments.{KeepsEither}
use Rattle.pair_store.specs.Store.{PairStands, PairStandsWithGate}
use Rattle.row_batches.specs.Batch.{applied}
use Rattle.row_batches.specs.declared.store_row.StoreRow.{StoreRow}
use Rattle.row_store.specs.Folding.{Fold}
use Rattle.row_store.specs.Moments.{KeepsEitherRows}
use Rattle.row_store.specs.Ready.{ReadyRows, payloads_after}
use Rattle.row_store.specs.Store.{StoredRows, RowsStandWithGate}
use Rattle.row_store.proofs.Folds.{fold_after, either_rows}
use Rattle.row_store.proofs.store.RowStore.commit.Given.{Over}
use Rattle.row_store.proofs.store.RowStore.commit.Goals.{After-write_payload}
use Rattle.row_store.proofs.store.RowStore.commit.Goals as goal

-- at each moment there are the rows of before, or those with the batch
either : (g : Over) (c : After-write_payload g) → g.H.Host.tells → RowsStandWithGate g.H.Host c.args.self.now c.args.host.now
    → MeetsAll g.H.Host c.args.host.now c.write_payload.new.host (KeepsEitherRows g.H.Host c.args.host.now c.args.self.now.rows (applied c.args.ready.batch c.args.self.now.rows))
either g c tells gated =
    let h = g.H.Host in
    let old = c.args.host.now in
    let new = c.write_payload.new.host in
    let now = c.args.self.now in
    let ready = c.args.ready in
    let payloads = gated.payloads in
    let pair = subst (λ (s : StoredRows). PairStandsWithGate h s.records old payloads) (sym c.self.view_is) gated.pair in
    let run = subst (λ (r : ReadyRows). MeetsAll h old new (KeepsEither h old payloads (payloads_after r.is_whole payloads r.payload))) c.ready.view_is (c.write_payload.ensures.any_moment tells payloads pair) in
    either_rows h old new payloads (payloads_after ready.is_whole payloads ready.payload) now.rows (applied ready.batch now.rows) gated.made
    (fold_after ready.is_whole now payloads ready.batch ready.payload gated.made c.requires.ready.rules c.requires.ready.written) run

pub returns-in_err-write_payload-clause-any_moment : goal.returns-in_err-write_payload-clause-any_moment
returns-in_err-write_payload-clause-any_moment g c = either g (goal.at.returns-in_err-write_payload-clause-any_moment g c).After-write_payload

pub returns-clause-any_moment : goal.returns-clause-any_moment
returns-clause-any_moment g c = either g (goal.at.returns-clause-any_moment g c).After-write_payload

pub returns-clause-acknowledged : goal.returns-clause-acknowledged
returns-clause-acknowledged g c tells =
    let h = g.H.Host in
    let new = c.write_payload.new.host in
    let now = c.args.self.now in
    let ready = c.args.ready in
    let stands = c.requires.stands tells in
    let payloads = stands.payloads in
    let pair = subst (λ (s : StoredRows). PairStands h s.records c.args.host.now payloads) (sym c.self.view_is) stands.pair in
    let after = subst (λ (r : ReadyRows). PairStandsWithGate h c.write_payload.new.pair new (payloads_after r.is_whole payloads r.payload)) c.ready.view_is (c.in_ok-write_payload.ensures.acknowledged tells payloads pair) in
    let rows : c.apply.new.self.rows ≡ applied ready.batch now.rows =
    c.apply.ensures.rows ∙ ap (λ (r : ReadyRows). applied r.batch c.self.inside.rows.rows) c.ready.view_is ∙ ap (λ (s : StoredRows). applied ready.batch s.rows) c.self.view_is in
    record {
      payloads = payloads_after ready.is_whole payloads ready.payload;
      pair = after;
      made = subst (λ (rs : List StoreRow). Fold (payloads_after ready.is_whole payloads ready.payload) [] rs) (sym rows) (fold_after ready.is_whole now payloads ready.batch ready.payload stands.made c.requires.ready.rules c.requires.ready.written);
    }
