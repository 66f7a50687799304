-- The values of a state's rows that encode an id, a recipe, a flag and participation.
use Rattle.std.specs.Prelude.{ℕ, ◌+◌, ◌*◌, Bool, true, false, List}
use Rattle.uuid.specs.Text.{hyphenated_text, lower}
use Rattle.json_tree.specs.Bytes.{text_of}
use Rattle.recipe_reader.specs.Records.{record_json}
use Rattle.recipe_reader.specs.declared.recipe.Recipe.{Recipe}
use Rattle.enrol_states.specs.declared.state.State.{State}

-- the text of an id: in lower case, with hyphens
unfoldable pub hyphenated : List ℕ → List ℕ
hyphenated id = hyphenated_text lower id

-- a recipe's record, as compact JSON
unfoldable pub recipe_text : Recipe → List ℕ
recipe_text r = text_of (record_json r)

abbrev pub bit : Bool → ℕ
bit true = 1
bit false = 0

-- which kinds of recipes the client takes part in: 4, and 1 more where experiments are on, and 2 more where rollouts are on
unfoldable pub participation_byte : State → ℕ
participation_byte s = 4 + bit s.experiments + 2 * bit s.rollouts
