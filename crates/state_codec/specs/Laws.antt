-- Laws of the definitions alone.
use Rattle.std.specs.Prelude.{◌≡◌, ℕ, List}
use Rattle.row_batches.specs.declared.store_row.StoreRow.{StoreRow}
use Rattle.enrol_states.specs.declared.state.State.{State}
use Rattle.state_codec.specs.Forms.{IsForm, IsEncoded}
use Rattle.state_codec.specs.Encoding.{encoding}
use Rattle.state_codec.specs.Sound.{IsSound}

-- sound states that have one encoding are one
abbrev pub IsOneToOne : Type 0
IsOneToOne = (s t : State) → IsSound s → IsSound t → encoding s ≡ encoding t → s ≡ t

-- rows are a form of one sound state at most
abbrev pub IsFormOfOne : Type 0
IsFormOfOne = (rows : List StoreRow) (s t : State) → IsSound s → IsSound t → IsForm s rows → IsForm t rows → s ≡ t

-- and so are bytes
abbrev pub IsEncodedByOne : Type 0
IsEncodedByOne = (bytes : List ℕ) (s t : State) → IsSound s → IsSound t → IsEncoded s bytes → IsEncoded t bytes → s ≡ t
