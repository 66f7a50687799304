-- Where the recipes are one, so are their rows.
use Rattle.std.proofs.Common.{◌≡◌, ◌+◌, true, ap, subst}
use Rattle.json_tree.specs.Json.{IsSound}
use Rattle.recipe_reader.specs.Equal.{recipe_eq}
use Rattle.recipe_reader.specs.Equals.{recipe_Decides}
use Rattle.recipe_reader.specs.Records.{record_json}
use Rattle.recipe_reader.specs.declared.recipe.Recipe.{Recipe}
use Rattle.state_codec.specs.Sizes.{recipe_size}
use Rattle.state_codec.proofs.recipe_sizes.size_with.Goals as goal

pub returns-then-eq-clause-size : goal.returns-then-eq-clause-size
returns-then-eq-clause-size c =
    let same : recipe_eq c.args.old.now c.args.new.now ≡ true = cc (c.eq.ensures, c.if-eq.true) in
    ap (λ (q : Recipe). c.args.size + recipe_size q) ((recipe_Decides c.args.old.now c.args.new.now).0 same)

pub returns-then-eq-clause-record : goal.returns-then-eq-clause-record
returns-then-eq-clause-record c =
    let same : recipe_eq c.args.old.now c.args.new.now ≡ true = cc (c.eq.ensures, c.if-eq.true) in
    subst (λ (q : Recipe). IsSound (record_json q)) ((recipe_Decides c.args.old.now c.args.new.now).0 same) c.requires.record
