use Rattle.std.proofs.Common.{map, ap, ◌∙◌}
use Rattle.fml_value.specs.TypedOf.{entry_of}
use Rattle.fml_merge.proofs.merging.Merge.new.Goals as goal

pub returns-clause-left : goal.returns-clause-left
returns-clause-left c = ap (map entry_of) c.from_vec.ensures.items ∙ c.into_vec.ensures.pairs
