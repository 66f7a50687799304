-- The name, and then the value.
use Rattle.std.proofs.Common.{decimal}
use Rattle.std.proofs.lemmas.Result.{on_ok_weaker}
use Rattle.json.specs.Token.{number}
use Rattle.recipe_drill.proofs.Parted.{member_written}
use Rattle.recipe_drill.proofs.members.write_number.Goals as goal

pub returns-clause-tokens : goal.returns-clause-tokens
returns-clause-tokens c = on_ok_weaker c.u64.result (λ written. member_written (number (decimal c.args.value)) c.in_ok-key.ensures (cc)) c.u64.ensures.ok
