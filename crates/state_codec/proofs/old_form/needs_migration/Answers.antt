-- The row `p` tells the form.
use Rattle.std.proofs.Common.{sym, ◌∙◌}
use Rattle.state_codec.proofs.Forms.{old_where, new_where}
use Rattle.state_codec.proofs.old_form.needs_migration.Goals as goal

pub returns-clause-old : goal.returns-clause-old
returns-clause-old c needs s form = old_where c.args.rows.now s (sym c.has_old.ensures ∙ needs) form

pub returns-clause-encoded : goal.returns-clause-encoded
returns-clause-encoded c none s form = new_where c.args.rows.now s (sym c.has_old.ensures ∙ none) form
