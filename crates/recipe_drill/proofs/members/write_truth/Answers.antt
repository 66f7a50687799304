-- The name, and then the value.
use Rattle.std.proofs.lemmas.Result.{on_ok_weaker}
use Rattle.json.specs.Token.{boolean}
use Rattle.recipe_drill.proofs.Parted.{member_written}
use Rattle.recipe_drill.proofs.members.write_truth.Goals as goal

pub returns-clause-tokens : goal.returns-clause-tokens
returns-clause-tokens c = on_ok_weaker c.boolean.result (member_written (boolean c.args.value) c.in_ok-key.ensures) c.boolean.ensures.ok
