use Rattle.std.proofs.Common.{◌≡◌, ◌++◌, take, drop}
use Rattle.fml_imports.proofs.merging.move_front.Given as goal

abbrev pub invariant-loop-rest : goal.invariant-loop-rest
invariant-loop-rest g l = record {
  done : l.done.items ++ take l.rest l.left.items ≡ l.initial.done.items ++ take l.count l.initial.left.items;
  left : drop l.rest l.left.items ≡ drop l.count l.initial.left.items;
}

abbrev pub decreases-loop-rest : goal.decreases-loop-rest
decreases-loop-rest g l = l.rest
