use Rattle.std.proofs.Common.{Some}
use Rattle.std.specs.Prelude.{option_map}
use Rattle.std.proofs.lemmas.List.{map-set}
use Rattle.jexl_value.specs.Value.{as_json}
use Rattle.jexl_eval.proofs.known.Known.put.Goals as goal

pub returns-then-place-len : goal.returns-then-place-len
returns-then-place-len c = map-set (option_map (λ r. as_json r.value)) c.args.self.now.values.items c.args.place (Some c.args.value)
