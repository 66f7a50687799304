-- The name, and then the value.
use Rattle.std.proofs.lemmas.Result.{on_ok_weaker}
use Rattle.json.specs.Token.{string}
use Rattle.recipe_drill.proofs.Parted.{member_written}
use Rattle.recipe_drill.proofs.members.write_text.Goals as goal

pub returns-clause-tokens : goal.returns-clause-tokens
returns-clause-tokens c = on_ok_weaker c.string.result (member_written (string c.args.value.now) c.in_ok-key.ensures) c.string.ensures.ok
