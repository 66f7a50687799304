use Rattle.std.proofs.Common.{◌≡◌, map, take}
use Rattle.app_context.specs.Attributes.{text_entry, entered}
use Rattle.app_context.proofs.targeting.enter_texts.Given as goal

abbrev pub invariant-loop-key : goal.invariant-loop-key
invariant-loop-key l = l.pairs ≡ entered (map (text_entry l.context) (take l.key-index l.keys)) l.initial.pairs
