-- What an answer says of a transform's meaning.
use Rattle.std.specs.Prelude.{◌≡◌, ℕ, Bool, true, false, List, map, Option, Some, None, Result, Ok, Err, ⊤}
use Rattle.json_tree.specs.Json.{Json, Members, members_of}
use Rattle.jexl_value.specs.Value.{as_json}
use Rattle.jexl_value.specs.declared.attributes.Attributes.{Attributes}
use Rattle.jexl_value.specs.declared.value.Value.{Value}
use denote.Ref.{Bor}
use Rattle.jexl_transforms.specs.Meaning.{meaning}
use Rattle.jexl_transforms.specs.declared.answer.CallFault.{CallFault}
use Rattle.jexl_transforms.specs.declared.answer.CallFault.TheVariants as faults
use Rattle.jexl_transforms.specs.declared.answer.TransformAnswer.{TransformAnswer}
use Rattle.jexl_transforms.specs.declared.answer.TransformAnswer.TheVariants.{Gives, Refused, OutOfMemory}

-- the answer is this value, or refuses where there is none; or memory is wanting
abbrev pub Answers : Option Json → TransformAnswer → Type 0
Answers value (Gives v) = value ≡ Some (as_json v)
Answers value Refused = value ≡ None
Answers value OutOfMemory = ⊤

-- each answer that a closure may give (`post`) is what the name means, or want of memory
abbrev pub AnswersAs : List ℕ → (Bor Attributes → Bor Value → Bor (List Value) → TransformAnswer → Type 0) → Type 0
AnswersAs name post = (attributes : Bor Attributes) (subject : Bor Value) (arguments : Bor (List Value)) (answer : TransformAnswer)
    → post attributes subject arguments answer → Answers (meaning name (members_of attributes.now.pairs) (as_json subject.now) (map as_json arguments.now)) answer

-- what a call says of a table that has the transforms of which `has` is true. The first three lines exclude one another, so each
-- comes exactly where it says; memory may be wanting at any call
abbrev pub Calls : (List ℕ → Bool) → List ℕ → Members → Json → List Json → Result Value CallFault → Type 0
Calls has name attributes subject arguments (Ok v) = (has name ≡ true) × (meaning name attributes subject arguments ≡ Some (as_json v))
Calls has name attributes subject arguments (Err faults.UnknownTransform) = has name ≡ false
Calls has name attributes subject arguments (Err faults.BadArguments) = (has name ≡ true) × (meaning name attributes subject arguments ≡ None)
Calls has name attributes subject arguments (Err faults.OutOfMemory) = ⊤

-- what a call says where its transform gives this answer
abbrev pub result_of : TransformAnswer → Result Value CallFault
result_of (Gives v) = Ok v
result_of Refused = Err faults.BadArguments
result_of OutOfMemory = Err faults.OutOfMemory
