-- The rows that a state has one of.
use Rattle.std.specs.Prelude.{ℕ, List, [], ◌∷◌, codes}
use Rattle.std.specs.Option.{is_some}
use Rattle.row_batches.specs.declared.store_row.StoreRow.{StoreRow}
use Rattle.enrol_states.specs.declared.state.State.{State}
use Rattle.state_values.specs.Statuses.{number}
use Rattle.state_values.specs.Values.{hyphenated, bit, participation_byte}
use Rattle.state_codec.specs.Encoding.{row}
use Rattle.state_codec.specs.declared.single_row.SingleRow.{SingleRow}
use Rattle.state_codec.specs.declared.single_row.SingleRow.TheVariants.{Id, Participation, IsPending, Installed, Updated, Version}

abbrev pub single_key : SingleRow → List ℕ
single_key Id = codes "i"
single_key Participation = codes "p"
single_key IsPending = codes "q"
single_key Installed = codes "t"
single_key Updated = codes "u"
single_key Version = codes "v"

abbrev pub single_value : SingleRow → State → List ℕ
single_value Id s = hyphenated s.id
single_value Participation s = participation_byte s ∷ []
single_value IsPending s = bit (is_some s.pending) ∷ []
single_value Installed s = number s.installed
single_value Updated s = number s.updated
single_value Version s = s.version

abbrev pub single_row : SingleRow → State → StoreRow
single_row single s = row (single_key single) (single_value single s)
