-- The lines of a script, and the command of a line.
use Rattle.std.specs.Prelude.{ℕ, ◌≤◌, ◌&&◌, nat_lt, nat_le, IsTrue, Bool, true, false, List, [], ◌∷◌, Option, None, Some, Result, Ok, Err, map, length, slice_range, bytes_eq, codes, decimal, if◌then◌else◌}
use Rattle.std.specs.Str.{is_utf8}
use Rattle.std.specs.Str.Parse.{digits_value}
use Rattle.json_tree.specs.Json as json
use Rattle.json_tree.specs.Json.{Json}
use Rattle.json_tree.specs.Bytes.{tree_of}
use Rattle.json_tree.specs.declared.tree.Tree.{Tree}
use Rattle.json_tree.specs.declared.tree.Tree.TheVariants.{Truth, Whole, Text}
use Rattle.plain_text.specs.Names.{bad_place, is_name}
use Rattle.plain_text.specs.Spans.{lines, words}
use Rattle.uuid.specs.Text.{parsed}
use Rattle.enrol_states.specs.declared.participation.Kinds.{Kinds}
use Rattle.enrol_states.specs.declared.participation.Kinds.TheVariants.{Both, Experiments, Rollouts}
use Rattle.enrol_states.specs.Consistent.{IsId}
use Rattle.enrol_states.specs.Statuses.{IsSlug}
use Rattle.pref_bindings.specs.Preferences.{IsValue}
use Rattle.client_words.specs.declared.command.Command.{Command}
use Rattle.client_words.specs.declared.command.Command.TheVariants.{Manifest, Context, Fetch, Apply, Participate, OptOut, OptIn, Reset, Show, Feature, WriteManifest, Event, Changes, Confirm, Bind, SetPreference, ClearPreference, Preferences}
use Rattle.client_words.specs.declared.line.LineFault.{LineFault}
use Rattle.client_words.specs.declared.line.LineFault.TheVariants.{LineTooLong, Blank, UnknownCommand, BadWords, BadSlug, BadId}

-- the bytes at a span
abbrev pub bytes_at : List ℕ → ℕ × ℕ → List ℕ
bytes_at text span = slice_range text span.0 span.1

-- a span of a text of this length
abbrev pub IsWithin : ℕ → ℕ × ℕ → Type 0
IsWithin len span = (span.0 ≤ span.1) × (span.1 ≤ len)

-- the lines of a script, without their ends
unfoldable pub lines_of : List ℕ → List (List ℕ)
lines_of script = map (bytes_at script) (lines script)

-- the words of a line
unfoldable pub words_of : List ℕ → List (List ℕ)
words_of line = map (bytes_at line) (words line)

-- what was read makes more, or it is refused
infixl 10 ◌>>=◌
abbrev pub ◌>>=◌ : {A B : Type 0} → Result A LineFault → (A → Result B LineFault) → Result B LineFault
(Ok a) >>= f = f a
(Err fault) >>= f = Err fault

-- the name of a file, a channel or a feature, which is in UTF-8
unfoldable pub text_in : List ℕ → Result (List ℕ) LineFault
text_in word = if is_utf8 word then Ok word else Err BadWords

abbrev pub unless_bad : List ℕ → Option ℕ → Result (List ℕ) LineFault
unless_bad word None = Ok word
unless_bad word (Some place) = Err (BadSlug place)

-- a slug, or where the word fails to be one
unfoldable pub slug_in : List ℕ → Result (List ℕ) LineFault
slug_in word = unless_bad word (bad_place word)

abbrev pub id_read : Option (List ℕ) → Result (List ℕ) LineFault
id_read None = Err BadId
id_read (Some id) = Ok id

-- an id in one of its four text forms
unfoldable pub id_in : List ℕ → Result (List ℕ) LineFault
id_in word = id_read (parsed word)

-- what the one word behind a command's name makes
abbrev pub of_one : (List ℕ → Result Command LineFault) → List (List ℕ) → Result Command LineFault
of_one made [] = Err BadWords
of_one made (word ∷ []) = made word
of_one made (word ∷ next ∷ more) = Err BadWords

-- what the two words behind it make
abbrev pub of_two : (List ℕ → List ℕ → Result Command LineFault) → List (List ℕ) → Result Command LineFault
of_two made [] = Err BadWords
of_two made (word ∷ []) = Err BadWords
of_two made (word ∷ next ∷ []) = made word next
of_two made (word ∷ next ∷ more ∷ rest) = Err BadWords

-- the words behind `manifest`: the name of the first file, and the channel
abbrev pub manifest_command : List (List ℕ) → Result Command LineFault
manifest_command arguments = of_two (λ word next. text_in word >>= λ file. text_in next >>= λ channel. Ok (Manifest file channel)) arguments

-- the words behind `context`
abbrev pub context_command : List (List ℕ) → Result Command LineFault
context_command arguments = of_one (λ word. text_in word >>= λ file. Ok (Context file)) arguments

-- the words behind `fetch`
abbrev pub fetch_command : List (List ℕ) → Result Command LineFault
fetch_command arguments = of_one (λ word. text_in word >>= λ file. Ok (Fetch file)) arguments

-- the words behind a command that has none
abbrev pub alone : Command → List (List ℕ) → Result Command LineFault
alone command [] = Ok command
alone command (word ∷ more) = Err BadWords

-- `yes` or `no`
abbrev pub yes_or_no_in : List ℕ → Result Bool LineFault
yes_or_no_in word = if bytes_eq word (codes "yes") then Ok true else (if bytes_eq word (codes "no") then Ok false else Err BadWords)

-- the recipes of one kind
abbrev pub kinds_in : List ℕ → Result Kinds LineFault
kinds_in word = if bytes_eq word (codes "experiments") then Ok Experiments else (if bytes_eq word (codes "rollouts") then Ok Rollouts else Err BadWords)

-- the words behind `participate`: `yes` or `no`, for the recipes of both kinds or of the one that stands before it
abbrev pub participate_command : List (List ℕ) → Result Command LineFault
participate_command [] = Err BadWords
participate_command (word ∷ []) = yes_or_no_in word >>= λ on. Ok (Participate Both on)
participate_command (word ∷ next ∷ []) = kinds_in word >>= λ kinds. yes_or_no_in next >>= λ on. Ok (Participate kinds on)
participate_command (word ∷ next ∷ more ∷ rest) = Err BadWords

-- the words behind `opt-out`
abbrev pub opt_out_command : List (List ℕ) → Result Command LineFault
opt_out_command arguments = of_one (λ word. slug_in word >>= λ slug. Ok (OptOut slug)) arguments

-- the words behind `opt-in`: the slug's place is told first
abbrev pub opt_in_command : List (List ℕ) → Result Command LineFault
opt_in_command arguments = of_two (λ word next. slug_in word >>= λ slug. slug_in next >>= λ branch. Ok (OptIn slug branch)) arguments

-- the words behind `reset`
abbrev pub reset_command : List (List ℕ) → Result Command LineFault
reset_command arguments = of_one (λ word. id_in word >>= λ id. Ok (Reset id)) arguments

-- the words behind `feature`
abbrev pub feature_command : List (List ℕ) → Result Command LineFault
feature_command arguments = of_one (λ word. text_in word >>= λ name. Ok (Feature name)) arguments

-- the name of what a user did, or of a preference
abbrev pub name_in : List ℕ → Result (List ℕ) LineFault
name_in word = if is_name word then text_in word else Err BadWords

-- the word is this number in decimal, and the number is 1 to 1,000,000
abbrev pub is_count : ℕ → List ℕ → Bool
is_count n word = nat_le 1 n && nat_le n 1000000 && bytes_eq word (decimal n)

-- a number from 1 to 1,000,000 in decimal
unfoldable pub count_in : List ℕ → Result ℕ LineFault
count_in word = if is_count (digits_value 10 word) word then Ok (digits_value 10 word) else Err BadWords

-- the words behind `event`: the name is told first
abbrev pub event_command : List (List ℕ) → Result Command LineFault
event_command arguments = of_two (λ word next. name_in word >>= λ name. count_in next >>= λ count. Ok (Event name count)) arguments

-- the word is this number in decimal, and the number is below 2 to the 64
abbrev pub is_number : ℕ → List ℕ → Bool
is_number n word = nat_lt n 18446744073709551616 && bytes_eq word (decimal n)

-- a number below 2 to the 64 in decimal
unfoldable pub number_in : List ℕ → Result ℕ LineFault
number_in word = if is_number (digits_value 10 word) word then Ok (digits_value 10 word) else Err BadWords

-- the words behind `confirm`
abbrev pub confirm_command : List (List ℕ) → Result Command LineFault
confirm_command arguments = of_one (λ word. number_in word >>= λ number. Ok (Confirm number)) arguments

-- the words behind `bind`
abbrev pub bind_command : List (List ℕ) → Result Command LineFault
bind_command arguments = of_one (λ word. text_in word >>= λ file. Ok (Bind file)) arguments

-- a truth value, a whole number of 64 bits or a text
abbrev pub preference_value : Json → Result Tree LineFault
preference_value (json.truth b) = Ok (Truth b)
preference_value (json.whole n) = Ok (Whole n)
preference_value (json.text s) = Ok (Text s)
preference_value x = Err BadWords

abbrev pub value_read : Option Json → Result Tree LineFault
value_read None = Err BadWords
value_read (Some x) = preference_value x

-- the value of a preference, whose JSON the word is
unfoldable pub value_in : List ℕ → Result Tree LineFault
value_in word = value_read (tree_of word)

-- the words behind `set-pref`
abbrev pub set_preference_command : List (List ℕ) → Result Command LineFault
set_preference_command arguments = of_two (λ word next. name_in word >>= λ name. value_in next >>= λ value. Ok (SetPreference name value)) arguments

-- the words behind `clear-pref`
abbrev pub clear_preference_command : List (List ℕ) → Result Command LineFault
clear_preference_command arguments = of_one (λ word. name_in word >>= λ name. Ok (ClearPreference name)) arguments

-- the command of this name, with the words behind it
abbrev pub command_named : List ℕ → List (List ℕ) → Result Command LineFault
command_named name arguments =
    if bytes_eq name (codes "manifest") then manifest_command arguments
    else if bytes_eq name (codes "context") then context_command arguments
    else if bytes_eq name (codes "fetch") then fetch_command arguments
    else if bytes_eq name (codes "apply") then alone Apply arguments
    else if bytes_eq name (codes "participate") then participate_command arguments
    else if bytes_eq name (codes "opt-out") then opt_out_command arguments
    else if bytes_eq name (codes "opt-in") then opt_in_command arguments
    else if bytes_eq name (codes "reset") then reset_command arguments
    else if bytes_eq name (codes "show") then alone Show arguments
    else if bytes_eq name (codes "feature") then feature_command arguments
    else if bytes_eq name (codes "write-manifest") then alone WriteManifest arguments
    else if bytes_eq name (codes "event") then event_command arguments
    else if bytes_eq name (codes "changes") then alone Changes arguments
    else if bytes_eq name (codes "confirm") then confirm_command arguments
    else if bytes_eq name (codes "bind") then bind_command arguments
    else if bytes_eq name (codes "set-pref") then set_preference_command arguments
    else if bytes_eq name (codes "clear-pref") then clear_preference_command arguments
    else if bytes_eq name (codes "prefs") then alone Preferences arguments
    else Err UnknownCommand

-- the command of these words
abbrev pub command_of_words : List (List ℕ) → Result Command LineFault
command_of_words [] = Err Blank
command_of_words (name ∷ arguments) = command_named name arguments

-- the command of a line, or the first fault that applies
unfoldable pub command_of : List ℕ → Result Command LineFault
command_of line = if nat_lt 4096 (length line) then Err LineTooLong else command_of_words (words_of line)

-- the text is a name, and what has it came 1 to 1,000,000 times
pub record IsEvent (text : List ℕ) (count : ℕ) : Type 0 where
  pub name : IsTrue (is_name text)
  pub least : 1 ≤ count
  pub most : count ≤ 1000000

-- what is kept by the parts of a command that is read from a line: slugs are slugs, an id has sixteen bytes, an event has a name and a count, and a preference has a name and a value
abbrev pub IsCommand : Command → Type 0
IsCommand (OptOut slug) = IsSlug slug
IsCommand (OptIn slug branch) = IsSlug slug × IsSlug branch
IsCommand (Reset id) = IsId id
IsCommand (Event name count) = IsEvent name count
IsCommand (SetPreference name value) = IsTrue (is_name name) × IsValue value
IsCommand (ClearPreference name) = IsTrue (is_name name)
IsCommand command = Unit {0}
