-- The rows of a state that isn't encoded in 4 GiB have room in a batch.
use Rattle.std.proofs.Common.{◌≤◌, ◌<◌, ◌^◌, ◌∷◌, [], List, ℕ, Bool, true, false, IsTrue, Option, Some, None, map, length, arith}
use Rattle.std.specs.Prelude.{nat_lt, if◌then◌else◌}
use Rattle.std.specs.List.{AllByRecursion}
use Rattle.plain_text.specs.Names.{is_name}
use Rattle.plain_text.proofs.ShortNames.{name_short}
use Rattle.row_batches.specs.Batch.{batch_text, whole_of}
use Rattle.row_batches.specs.Batches.{HaveRoom}
use Rattle.event_counts.specs.Rows as count_rows
use Rattle.event_counts.specs.Sound.{IsSoundName}
use Rattle.event_counts.specs.declared.name_counts.NameCounts.{NameCounts}
use Rattle.change_outbox.specs.Contents.{Contents}
use Rattle.change_outbox.specs.Rows as change_rows
use Rattle.change_outbox.specs.Rows.{change_key, change_row, next_row, next_rows, number_text}
use Rattle.change_outbox.specs.declared.change.Change.{Change}
use Rattle.pref_bindings.specs.Preferences.{IsPreference}
use Rattle.pref_bindings.specs.Rows.{hold_row, hold_rows, value_rows}
use Rattle.pref_bindings.specs.declared.preference.Hold.{Hold}
use Rattle.pref_bindings.specs.declared.preference.Preference.{Preference}
use Rattle.state_values.specs.Values.{participation_byte}
use Rattle.state_codec.specs.Encoding.{first_rows, later_rows}
use Rattle.state_codec.proofs.Room.{HaveShortKeys, short-append, first_short, later_short, room_of}
use Rattle.client_state.specs.declared.client_state.ClientState.{ClientState}
use Rattle.client_state.specs.Sound.{IsConsistent}
use Rattle.client_state.specs.Encoding.{rows_with, rows_of, encoding}

events_short : (ns : List NameCounts) → AllByRecursion IsSoundName ns → HaveShortKeys (count_rows.rows_of ns)
events_short [] sound = tt
events_short (n ∷ ns) sound = (omega (arith, name_short n.name sound.0.name), events_short ns sound.1)

number_short : (n : ℕ) → length (change_key n) ≤ 81
unfolding number_text
number_short n = omega arith

next_short : (b : Bool) (n : ℕ) → HaveShortKeys (if b then next_row n ∷ [] else [])
next_short true n = (omega arith, tt)
next_short false n = tt

changes_short : (cs : List Change) → HaveShortKeys (map change_row cs)
changes_short [] = tt
changes_short (c ∷ cs) = (number_short c.number, changes_short cs)

outbox_short : (o : Contents) → HaveShortKeys (change_rows.rows_of o)
outbox_short o = short-append (next_rows o.next) (map change_row o.entries) (next_short (nat_lt 1 o.next) o.next) (changes_short o.entries)

hold_short : (name : List ℕ) (h : Option Hold) → IsTrue (is_name name) → HaveShortKeys (hold_row name h)
hold_short name None is = tt
hold_short name (Some h) is = (omega (arith, name_short name is), tt)

holds_short : (ps : List Preference) → AllByRecursion IsPreference ps → HaveShortKeys (hold_rows ps)
holds_short [] are = tt
holds_short (p ∷ ps) are = short-append (hold_row p.name p.hold) (hold_rows ps) (hold_short p.name p.hold are.0.name) (holds_short ps are.1)

values_short : (ps : List Preference) → AllByRecursion IsPreference ps → HaveShortKeys (value_rows ps)
values_short [] are = tt
values_short (p ∷ ps) are = (omega (arith, name_short p.name are.0.name), values_short ps are.1)

keys_short : (byte : ℕ) (s : ClientState) → IsConsistent s → HaveShortKeys (rows_with byte s)
unfolding rows_with
keys_short byte s is =
    short-append (first_rows s.enrolment) _ (first_short s.enrolment is.enrolment)
    (short-append (count_rows.rows_of s.events) _ (events_short s.events is.events.names)
    (short-append (hold_rows s.preferences) _ (holds_short s.preferences is.preferences.each)
    (short-append (later_rows byte s.enrolment) _ (later_short byte s.enrolment is.enrolment)
    (short-append (change_rows.rows_of s.outbox) _ (outbox_short s.outbox) (values_short s.preferences is.preferences.each)))))

pub with_room : (byte : ℕ) (s : ClientState) → IsConsistent s → length (batch_text (whole_of (rows_with byte s))) < 2 ^ 32 → HaveRoom (rows_with byte s)
with_room byte s is fits = room_of (rows_with byte s) (keys_short byte s is) (omega (arith, fits))

pub rows_room : (s : ClientState) → IsConsistent s → length (encoding s) < 2 ^ 32 → HaveRoom (rows_of s)
unfolding encoding
rows_room s is fits = with_room (participation_byte s.enrolment) s is fits
