-- The states that a store may hold.
use Rattle.std.specs.Prelude.{◌≤◌, ℕ, List, [], ◌∷◌, length, ⊤}
use Rattle.json_tree.specs.Json as json
use Rattle.recipe_reader.specs.Records.{record_json}
use Rattle.recipe_reader.specs.declared.recipe.Recipe.{Recipe}
use Rattle.enrol_states.specs.Consistent.{IsConsistent}
use Rattle.enrol_states.specs.declared.state.State.{State}
use Rattle.state_codec.specs.Encoding.{pending_recipes, encoding}

-- the most bytes that a state is encoded in
abbrev pub max_size : ℕ
max_size = 16777216

-- each one's record is a JSON value: its texts are in UTF-8, as its type keeps
abbrev pub AreRecords : List Recipe → Type 0
AreRecords [] = ⊤
AreRecords (r ∷ rs) = json.IsSound (record_json r) × AreRecords rs

pub record HaveRecords (s : State) : Type 0 where
  pub live : AreRecords s.live
  pub pending : AreRecords (pending_recipes s.pending)

pub record IsSound (s : State) : Type 0 where
  pub consistent : IsConsistent s
  pub records : HaveRecords s
  pub size : length (encoding s) ≤ max_size
