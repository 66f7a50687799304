-- What the fact kept with a stored transform says of an answer.
use Rattle.std.proofs.Common.{◌≡◌, ℕ, Bool, List, true, map, Some, None, subst, Bor}
use Rattle.std.proofs.Math.Logic.{∥∥₁_elim}
use Rattle.std.specs.Coded.{Coded-set, coded_option}
use Rattle.json_tree.specs.Json.{json_code, members_of}
use Rattle.jexl_value.specs.Value.{as_json}
use Rattle.jexl_value.specs.declared.attributes.Attributes.{Attributes}
use Rattle.jexl_value.specs.declared.value.Value.{Value}
use Rattle.jexl_transforms.specs.Meaning.{meaning}
use Rattle.jexl_transforms.specs.Answering.{AnswersAs, Calls, result_of}
use Rattle.jexl_transforms.specs.declared.answer.TransformAnswer.{TransformAnswer}
use Rattle.jexl_transforms.specs.declared.answer.TransformAnswer.TheVariants.{Gives, Refused, OutOfMemory}

module _ {post : Bor Attributes → Bor Value → Bor (List Value) → TransformAnswer → Type 0} (name called : List ℕ) (attributes : Bor Attributes) (subject : Bor Value) (arguments : Bor (List Value)) (answer : TransformAnswer) where
  -- a value that was given is what the name means
  given : (v : Value) → ∥ AnswersAs name post ∥₁ → name ≡ called → post attributes subject arguments answer → answer ≡ Gives v
      → meaning called (members_of attributes.now.pairs) (as_json subject.now) (map as_json arguments.now) ≡ Some (as_json v)
  given v kept same done is = subst (λ n. meaning n (members_of attributes.now.pairs) (as_json subject.now) (map as_json arguments.now) ≡ Some (as_json v)) same
      (∥∥₁_elim kept (Coded-set (coded_option json_code) _ _) (λ facts. facts attributes subject arguments (Gives v) (subst (post attributes subject arguments) is done)))

  -- what was refused has no meaning
  refused : ∥ AnswersAs name post ∥₁ → name ≡ called → post attributes subject arguments answer → answer ≡ Refused
      → meaning called (members_of attributes.now.pairs) (as_json subject.now) (map as_json arguments.now) ≡ None
  refused kept same done is = subst (λ n. meaning n (members_of attributes.now.pairs) (as_json subject.now) (map as_json arguments.now) ≡ None) same
      (∥∥₁_elim kept (Coded-set (coded_option json_code) _ _) (λ facts. facts attributes subject arguments Refused (subst (post attributes subject arguments) is done)))

  -- a call of a table that has the name
  pub called_so : (has : List ℕ → Bool) → has called ≡ true → ∥ AnswersAs name post ∥₁ → name ≡ called → post attributes subject arguments answer
      → (a : TransformAnswer) → answer ≡ a → Calls has called (members_of attributes.now.pairs) (as_json subject.now) (map as_json arguments.now) (result_of a)
  called_so has known kept same done (Gives v) is = (known, given v kept same done is)
  called_so has known kept same done Refused is = (known, refused kept same done is)
  called_so has known kept same done OutOfMemory is = tt
