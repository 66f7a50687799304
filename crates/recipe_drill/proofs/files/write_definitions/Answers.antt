-- One definition more, behind its feature's name, and all of them between their brackets.
use Rattle.std.proofs.Common.{get_or, ap, ◌∙◌, ◌++◌, ◌∷◌, [], refl}
use Rattle.std.proofs.lemmas.Result.{on_ok_weaker}
use Rattle.json.specs.Token.{key}
use Rattle.recipe_drill.specs.Files.{feature_numbers}
use Rattle.recipe_drill.proofs.Definitions.{definition_written, definitions_written}
use Rattle.recipe_drill.proofs.files.write_definitions.Goals as goal

pub loop-number-preserved : goal.loop-number-preserved
loop-number-preserved c = record {
  before = c.in_ok-write_definition.ensures.before ∙ c.in_ok-key.ensures.room.0 ∙ c.loop-number.invariant.before;
  tokens =
      let i = c.loop-number.number-index in
      let name = c.as_str.ensures.value ∙ c.in_ok-set_feature_name.ensures in
      let named = c.in_ok-key.ensures.ok ∙ ap (λ n. c.loop-number.writer.tokens ++ key n ∷ []) name in
      definition_written feature_numbers i (get_or feature_numbers i 0) _ _ _ _ c.loop-number-test.true refl named c.in_ok-write_definition.ensures.tokens c.loop-number.invariant.tokens;
}

pub returns-clause-tokens : goal.returns-clause-tokens
returns-clause-tokens c =
    on_ok_weaker c.end_object.result
    (λ closed. definitions_written feature_numbers c.loop-number.number-index _ _ _ _ c.loop-number-test.false c.in_ok-begin_object.ensures.ok c.loop-number.invariant.tokens closed)
    c.end_object.ensures.ok
