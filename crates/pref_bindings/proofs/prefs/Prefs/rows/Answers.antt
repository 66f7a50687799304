use Rattle.std.proofs.Common.{rules, ◌≡◌, sym, subst}
use Rattle.row_batches.specs.Rows.{AreRows}
use Rattle.pref_bindings.specs.Rows.{rows_of}
use Rattle.pref_bindings.proofs.RowOrder.{rows_rise}
use Rattle.pref_bindings.proofs.prefs.Prefs.rows.Goals as goal

pub returns-clause-order : goal.returns-clause-order
returns-clause-order c =
    let rows : c.add_rows-2.new.rows ≡ rows_of c.args.self.now = search rules in
    subst AreRows (sym rows) (rows_rise c.args.self.now c.as_slice-preferences.ensures.sound.names)
