use Rattle.std.proofs.Common.{All, IsTrue, take}
use Rattle.plain_text.specs.Names.{is_name}
use Rattle.enrol_states.proofs.soundness.are_names.Given as goal

abbrev pub invariant-loop-text : goal.invariant-loop-text
invariant-loop-text l = All (λ name. IsTrue (is_name name)) (take l.text-index l.texts)
