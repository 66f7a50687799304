-- How many bytes a state is encoded in: those of its enrolment, and those of the rows of its events, its outbox and its preferences.
use Rattle.std.proofs.Common.{◌≡◌, ◌+◌, ◌≤◌, ◌^◌, [], ◌∷◌, List, ℕ, length, refl, sym, subst, arith}
use Rattle.row_batches.specs.Batch.{batch_text, puts_text, whole_of}
use Rattle.row_batches.proofs.Sizes.{puts_size-append}
use Rattle.event_counts.specs.Rows as count_rows
use Rattle.change_outbox.specs.Rows as change_rows
use Rattle.pref_bindings.specs.Rows as preference_rows
use Rattle.pref_bindings.specs.Rows.{hold_rows, value_rows}
use Rattle.state_values.specs.Values.{participation_byte}
use Rattle.state_codec.specs.Sizes as codec_sizes
use Rattle.state_codec.specs.Sound as codec_sound
use Rattle.state_codec.specs.declared.size.StateSizes.{StateSizes}
use Rattle.state_codec.specs.Encoding as codec
use Rattle.state_codec.specs.Encoding.{first_rows, later_rows}
use Rattle.state_codec.proofs.Sizes as codec_lengths
use Rattle.client_state.specs.declared.client_state.ClientState.{ClientState}
use Rattle.client_state.specs.declared.sizes.ClientSizes.{ClientSizes}
use Rattle.client_state.specs.Sizes.{IsSizeOf}
use Rattle.client_state.specs.Sound.{IsSound}
use Rattle.client_state.specs.Encoding.{rows_with, encoding}
use Rattle.client_state.proofs.Divided.{Section, joined, sections}

-- the bytes of the puts of the events' rows
abbrev pub events_size : ClientState → ℕ
events_size s = length (puts_text (count_rows.rows_of s.events))

-- and of the outbox's
abbrev pub outbox_size : ClientState → ℕ
outbox_size s = length (puts_text (change_rows.rows_of s.outbox))

-- and of the preferences'
abbrev pub preferences_size : ClientState → ℕ
preferences_size s = length (puts_text (preference_rows.rows_of s.preferences))

-- the bytes of the puts of sections
abbrev size_in : List Section → ℕ → ClientState → ℕ
size_in [] byte s = length (puts_text (value_rows s.preferences))
size_in (x ∷ xs) byte s = length (puts_text (x.rows byte s)) + size_in xs byte s

joined_size : (xs : List Section) (byte : ℕ) (s : ClientState) → length (puts_text (joined xs byte s)) ≡ size_in xs byte s
joined_size [] byte s = refl
joined_size (x ∷ xs) byte s = omega (arith, puts_size-append (x.rows byte s) (joined xs byte s), joined_size xs byte s)

pub length-with : (byte : ℕ) (s : ClientState) → length (batch_text (whole_of (rows_with byte s))) ≡ length (batch_text (whole_of (codec.rows_with byte s.enrolment))) + events_size s + outbox_size s + preferences_size s
unfolding rows_with codec.rows_with
length-with byte s =
    let enrolment = puts_size-append (first_rows s.enrolment) (later_rows byte s.enrolment) in
    let preferences = puts_size-append (hold_rows s.preferences) (value_rows s.preferences) in
    omega (arith, joined_size sections byte s, enrolment, preferences)

pub length-encoding : (s : ClientState) → length (encoding s) ≡ length (codec.encoding s.enrolment) + events_size s + outbox_size s + preferences_size s
unfolding encoding codec.encoding
length-encoding s = length-with (participation_byte s.enrolment) s

-- rows are as long whatever the byte of participation is
pub length-byte : (byte other : ℕ) (s : ClientState) → length (batch_text (whole_of (rows_with byte s))) ≡ length (batch_text (whole_of (rows_with other s)))
length-byte byte other s = omega (arith, length-with byte s, length-with other s, codec_lengths.length-byte byte other s.enrolment)

-- the enrolment of a sound state is sound
pub enrolment_sound : (s : ClientState) → IsSound s → codec_sound.IsSound s.enrolment
enrolment_sound s is = record { consistent = is.consistent.enrolment; records = is.records; size = omega (arith, length-encoding s, is.size) }

-- the rows of the events of a sound state are short
pub events_fit : (s : ClientState) (sizes : ClientSizes) → IsSound s → IsSizeOf s sizes → sizes.events ≤ 2 ^ 99
events_fit s sizes is are = omega (arith, are.events, length-encoding s, is.size)

-- and so are those of its outbox
pub outbox_fits : (s : ClientState) (sizes : ClientSizes) → IsSound s → IsSizeOf s sizes → sizes.outbox ≤ 2 ^ 100
outbox_fits s sizes is are = omega (arith, are.outbox, length-encoding s, is.size)

-- and of its preferences
pub preferences_fit : (s : ClientState) (sizes : ClientSizes) → IsSound s → IsSizeOf s sizes → sizes.preferences ≤ 2 ^ 100
preferences_fit s sizes is are = omega (arith, are.preferences, length-encoding s, is.size)

-- the sizes of a state by those of its parts
pub sizes_are : (s : ClientState) (enrolment : StateSizes) (events outbox preferences : ℕ) (sizes : ClientSizes)
    → sizes ≡ record { total = enrolment.total + events + outbox + preferences; enrolment = enrolment; events = events; outbox = outbox; preferences = preferences }
    → codec_sizes.IsSizeOf s.enrolment enrolment → events ≡ events_size s → outbox ≡ outbox_size s → preferences ≡ preferences_size s → IsSizeOf s sizes
sizes_are s enrolment events outbox preferences sizes is are events_are outbox_are preferences_are =
    subst (IsSizeOf s) (sym is)
    (record {
      total = omega (arith, length-encoding s, are.total, events_are, outbox_are, preferences_are);
      enrolment = are;
      events = events_are;
      outbox = outbox_are;
      preferences = preferences_are;
    })
