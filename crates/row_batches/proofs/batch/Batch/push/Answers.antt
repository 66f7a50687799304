use Rattle.std.proofs.Common.{List, IsTrue, sym, subst}
use Rattle.row_batches.specs.Batch.{ChangeList, IsBatch, ComesNext, IsPut}
use Rattle.row_batches.specs.Rows.{key_in}
use Rattle.row_batches.specs.declared.change.RowChange.{RowChange}
use Rattle.row_batches.proofs.Keeping.{one_more_rule}
use Rattle.row_batches.proofs.batch.Batch.push.Goals as goal

pub invariant_of-self-2 : goal.invariant_of-self-2
invariant_of-self-2 c =
    let change = c.args.change in
    let clear = c.self.inside.is_clear in
    let changes : List RowChange = c.self.inside.changes in
    let next = subst (λ (b : ChangeList). ComesNext (key_in change) b.changes) (sym c.self.view_is) c.requires.next in
    let puts = subst (λ (b : ChangeList). IsTrue b.clear → IsPut change) (sym c.self.view_is) c.requires.puts in
    subst (λ (cs : List RowChange). IsBatch (record { clear = clear; changes = cs })) (sym c.in_ok-push.ensures.ok) (one_more_rule clear changes change c.self.invariant next c.requires.room puts)

pub returns-clause-rules : goal.returns-clause-rules
returns-clause-rules c =
    let change = c.args.change in
    let clear = c.self.inside.is_clear in
    let changes : List RowChange = c.self.inside.changes in
    let next = subst (λ (b : ChangeList). ComesNext (key_in change) b.changes) (sym c.self.view_is) c.requires.next in
    let puts = subst (λ (b : ChangeList). IsTrue b.clear → IsPut change) (sym c.self.view_is) c.requires.puts in
    subst (λ (cs : List RowChange). IsBatch (record { clear = clear; changes = cs })) (sym c.in_ok-push.ensures.ok) (one_more_rule clear changes change c.self.invariant next c.requires.room puts)
