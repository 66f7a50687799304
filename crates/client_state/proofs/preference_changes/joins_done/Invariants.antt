use Rattle.std.proofs.Common.{◌≡◌, drop}
use Rattle.std.specs.Prelude.{option_map}
use Rattle.std.specs.Option.{unwrap_or}
use Rattle.client_state.specs.Following.{join_values, joins_done}
use Rattle.client_state.proofs.preference_changes.joins_done.Given as goal

abbrev pub invariant-loop-change : goal.invariant-loop-change
invariant-loop-change l =
    let values = join_values (option_map (λ m. m.now) l.fn.sources.manifest) (option_map (λ b. b.now) l.fn.sources.bindings) l.fn.sources.enrolment.now in
    joins_done values (drop l.change-index l.fn.changes) (unwrap_or l.joined l.fn.preferences) ≡ joins_done values l.fn.changes l.fn.preferences
