use Rattle.std.proofs.Common.{rules, ◌≡◌, false, sym}
use Rattle.std.specs.List.{list_any}
use Rattle.enrol_states.specs.Commands.{leaves}
use Rattle.enrol_states.proofs.Answered.{if_matched}
use Rattle.enrol_states.proofs.OptingOut.{all-stay}
use Rattle.enrol_states.proofs.participation.rows_left.Goals as goal

pub returns-then-not-any_leaves : goal.returns-then-not-any_leaves
returns-then-not-any_leaves c =
    let none : list_any (leaves c.args.state.now c.args.kinds) c.args.state.now.rows ≡ false = search rules in
    if_matched c.clone.result _ _ _ (sym (all-stay c.args.state.now c.args.kinds c.args.state.now.rows none)) c.clone.ensures.cases
