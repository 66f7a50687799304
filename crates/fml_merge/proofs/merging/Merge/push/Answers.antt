use Rattle.std.proofs.Common.{map, ap, ◌∙◌}
use Rattle.std.proofs.lemmas.Result.{on_ok_weaker}
use Rattle.std.specs.Option.{option_to_list}
use Rattle.fml_value.specs.TypedOf.{entry_of}
use Rattle.fml_merge.proofs.Merge.{map_join}
use Rattle.fml_merge.proofs.merging.Merge.push.Goals as goal

pub returns-clause-merged : goal.returns-clause-merged
returns-clause-merged c = on_ok_weaker c.push_some.result (λ is. ap (map entry_of) is ∙ map_join c.args.self.now.merged.items (option_to_list c.args.entry)) c.push_some.ensures
