-- The changes of a list with several owners.
use Rattle.std.specs.Prelude.{List, [], Option, Some, None, Vec}
use Rattle.std.specs.declared.rc.Rc.{Rc}

-- the items; none where there is no list
abbrev pub shared_items : {A Z : Type 0} → Option (Rc (Vec A Z) Z) → List A
shared_items None = []
shared_items (Some l) = l.value.items
