use Rattle.std.proofs.Common.{[], List, true, ap, sym, subst, ◌∙◌}
use Rattle.row_batches.specs.Batch.{IsBatch}
use Rattle.row_batches.specs.Rows.{after_changes}
use Rattle.row_batches.specs.declared.change.RowChange.{RowChange}
use Rattle.row_batches.proofs.Walks.{whole_rule, made_of_none}
use Rattle.row_batches.proofs.batch.Batch.whole_of.Goals as goal

pub invariant_of-result : goal.invariant_of-result
invariant_of-result c =
    subst (λ (cs : List RowChange). IsBatch (record { clear = true; changes = cs })) (sym c.in_ok-changes.ensures) (whole_rule c.args.rows c.requires.rise c.requires.room)

pub returns-clause-gives : goal.returns-clause-gives
returns-clause-gives c = ap (λ (cs : List RowChange). after_changes cs []) c.in_ok-changes.ensures ∙ made_of_none c.args.rows c.requires.rise
