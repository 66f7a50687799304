-- How many bytes a client's state is encoded in, and how many of them its parts take.
use Rattle.std.specs.Prelude.{◌≡◌, length}
use Rattle.row_batches.specs.Batch.{puts_text}
use Rattle.state_codec.specs.Sizes as codec
use Rattle.event_counts.specs.Rows as count_rows
use Rattle.change_outbox.specs.Rows as change_rows
use Rattle.pref_bindings.specs.Rows as preference_rows
use Rattle.client_state.specs.declared.client_state.ClientState.{ClientState}
use Rattle.client_state.specs.declared.sizes.ClientSizes.{ClientSizes}
use Rattle.client_state.specs.Encoding.{encoding}

-- these are the sizes of the state's encoding, of its enrolment, and of the rows of its parts
pub record IsSizeOf (s : ClientState) (sizes : ClientSizes) : Type 0 where
  pub total : sizes.total ≡ length (encoding s)
  pub enrolment : codec.IsSizeOf s.enrolment sizes.enrolment
  pub events : sizes.events ≡ length (puts_text (count_rows.rows_of s.events))
  pub outbox : sizes.outbox ≡ length (puts_text (change_rows.rows_of s.outbox))
  pub preferences : sizes.preferences ≡ length (puts_text (preference_rows.rows_of s.preferences))
