use Rattle.std.proofs.Common.{◌≡◌, []}
use Rattle.fml_reader.specs.Features.{in_order}
use Rattle.fml_reader.proofs.names.in_order.Given as goal

abbrev pub invariant-loop-name : goal.invariant-loop-name
invariant-loop-name l = in_order l.set.keys l.name-iterator.rest.items ≡ in_order [] l.fn.names
