use Rattle.std.proofs.Common.{sym, arith}
use Rattle.json_tree.specs.Json.{members_of}
use Rattle.jexl_value.specs.Value.{as_json}
use Rattle.jexl_transforms.proofs.Refusing.{seen_of_many}
use Rattle.jexl_transforms.proofs.events.last_seen_of.Goals as goal

pub returns-in_default : goal.returns-in_default
returns-in_default c = sym (seen_of_many (members_of c.args.attributes.now.pairs) (as_json c.args.subject.now) c.args.arguments.now (omega arith))
