-- The text of an answer, each line of which ends with the byte 10.
use Rattle.std.specs.Prelude.{ℕ, Bool, true, false, List, [], ◌∷◌, ◌++◌, codes, length, decimal}
use Rattle.uuid.specs.Text.{hyphenated_text, lower}
use Rattle.json_tree.specs.Bytes.{text_of}
use Rattle.json_tree.specs.Tree.{json_of}
use Rattle.change_outbox.specs.declared.change.Change.{Change}
use Rattle.change_outbox.specs.declared.change.ChangeKind.{ChangeKind}
use Rattle.change_outbox.specs.declared.change.ChangeKind.TheVariants as change
use Rattle.pref_bindings.specs.declared.preference.Preference.{Preference}
use Rattle.recipe_reader.specs.declared.recipe.SkipReason.{SkipReason}
use Rattle.recipe_reader.specs.declared.recipe.SkipReason.TheVariants as skip
use Rattle.enrol_states.specs.declared.state.Row.{Row}
use Rattle.enrol_states.specs.declared.status.Status.{Status}
use Rattle.enrol_states.specs.declared.status.Status.TheVariants as status
use Rattle.enrol_states.specs.declared.status.EnrolledReason.{EnrolledReason}
use Rattle.enrol_states.specs.declared.status.EnrolledReason.TheVariants as enrolled
use Rattle.enrol_states.specs.declared.status.NotEnrolledReason.{NotEnrolledReason}
use Rattle.enrol_states.specs.declared.status.NotEnrolledReason.TheVariants as not_enrolled
use Rattle.enrol_states.specs.declared.status.DisqualifiedReason.{DisqualifiedReason}
use Rattle.enrol_states.specs.declared.status.DisqualifiedReason.TheVariants as disqualified
use Rattle.enrol_states.specs.declared.status.ErrorCause.{ErrorCause}
use Rattle.enrol_states.specs.declared.status.ErrorCause.TheVariants as error
use Rattle.client_words.specs.declared.answer.Answer.{Answer}
use Rattle.client_words.specs.declared.answer.Answer.TheVariants.{Okay, Fetched, Applied, Value, Shown, Manifest, Changes, Preferences, Refused}
use Rattle.client_words.specs.Refusals.{refusal_lines}
use Rattle.client_words.specs.declared.line.LineFault.{LineFault}
use Rattle.client_words.specs.declared.line.LineFault.TheVariants.{LineTooLong, Blank, UnknownCommand, BadWords, BadSlug, BadId, OutOfMemory}

-- the text of an id: in lower case, with hyphens
unfoldable pub hyphenated : List ℕ → List ℕ
hyphenated id = hyphenated_text lower id

abbrev pub yes_or_no : Bool → List ℕ
yes_or_no true = codes "yes"
yes_or_no false = codes "no"

abbrev pub skip_name : SkipReason → List ℕ
skip_name skip.NotAnObject = codes "NotAnObject"
skip_name skip.BadSlug = codes "BadSlug"
skip_name skip.BadSchema = codes "BadSchema"
skip_name skip.BadField = codes "BadField"
skip_name skip.BadBucket = codes "BadBucket"
skip_name skip.BadBranches = codes "BadBranches"
skip_name skip.Duplicate = codes "Duplicate"

-- a record that was skipped, with its index and its reason
unfoldable pub skipped_line : ℕ × SkipReason → List ℕ
skipped_line (index, reason) = codes "skipped " ++ decimal index ++ codes " " ++ skip_name reason ++ 10 ∷ []

-- a line for each item, one after the other
abbrev pub lines_for : {A : Type 0} → (A → List ℕ) → List A → List ℕ
lines_for line [] = []
lines_for line (item ∷ items) = line item ++ lines_for line items

abbrev pub out_line : List ℕ → List ℕ
out_line slug = codes "out " ++ slug ++ 10 ∷ []

abbrev pub enrolled_name : EnrolledReason → List ℕ
enrolled_name enrolled.Qualified = codes "Qualified"
enrolled_name enrolled.OptIn = codes "OptIn"

abbrev pub not_enrolled_name : NotEnrolledReason → List ℕ
not_enrolled_name not_enrolled.DifferentAppName = codes "DifferentAppName"
not_enrolled_name not_enrolled.DifferentChannel = codes "DifferentChannel"
not_enrolled_name not_enrolled.EnrollmentsPaused = codes "EnrollmentsPaused"
not_enrolled_name not_enrolled.FeatureConflict = codes "FeatureConflict"
not_enrolled_name not_enrolled.NotSelected = codes "NotSelected"
not_enrolled_name not_enrolled.NotTargeted = codes "NotTargeted"
not_enrolled_name not_enrolled.OptOut = codes "OptOut"

abbrev pub disqualified_name : DisqualifiedReason → List ℕ
disqualified_name disqualified.Error = codes "Error"
disqualified_name disqualified.FeatureConflict = codes "FeatureConflict"
disqualified_name disqualified.NotSelected = codes "NotSelected"
disqualified_name disqualified.NotTargeted = codes "NotTargeted"
disqualified_name disqualified.OptOut = codes "OptOut"

abbrev pub cause_name : ErrorCause → List ℕ
cause_name error.Unparsed = codes "Unparsed"
cause_name error.Faulted = codes "Faulted"
cause_name error.NotTruth = codes "NotTruth"
cause_name error.NoUnit = codes "NoUnit"

abbrev pub status_words : Status → List ℕ
status_words (status.Enrolled reason branch) = codes "Enrolled " ++ enrolled_name reason ++ (codes " " ++ branch)
status_words (status.NotEnrolled reason) = codes "NotEnrolled " ++ not_enrolled_name reason
status_words (status.Disqualified reason branch) = codes "Disqualified " ++ disqualified_name reason ++ (codes " " ++ branch)
status_words (status.WasEnrolled branch ended) = codes "WasEnrolled " ++ branch ++ (codes " " ++ decimal ended)
status_words (status.Error cause) = codes "Error " ++ cause_name cause

abbrev pub row_line : Row → List ℕ
row_line row = row.slug ++ codes " " ++ status_words row.status ++ 10 ∷ []

abbrev pub kind_word : ChangeKind → List ℕ
kind_word change.Join = codes "join"
kind_word change.Leave = codes "leave"

-- a change of an enrolment, with its number
unfoldable pub change_line : Change → List ℕ
change_line c = (codes "change " ++ decimal c.number) ++ (codes " " ++ kind_word c.kind) ++ (codes " " ++ c.slug) ++ (codes " " ++ c.branch) ++ 10 ∷ []

-- a preference, with its present value as canonical JSON
unfoldable pub preference_line : Preference → List ℕ
preference_line p = codes "pref " ++ p.name ++ codes " " ++ text_of (json_of p.value) ++ 10 ∷ []

-- the kinds of recipes that the client takes part in: `yes` for both, `no` for none
abbrev pub participating_in : Bool → Bool → List ℕ
participating_in true true = codes "yes"
participating_in true false = codes "experiments"
participating_in false true = codes "rollouts"
participating_in false false = codes "no"

-- what `show` says
unfoldable pub shown_lines : List ℕ → Bool → Bool → Bool → List (List ℕ) → List Row → List ℕ
shown_lines id experiments rollouts pending opted_out rows =
    codes "id " ++ hyphenated id ++ codes "\nparticipating " ++ participating_in experiments rollouts ++ codes "\npending " ++ yes_or_no pending ++ codes "\n" ++ lines_for out_line opted_out ++ lines_for row_line rows ++ codes "end\n"

-- what `fetch` says
unfoldable pub fetched_lines : ℕ → List (ℕ × SkipReason) → List ℕ
fetched_lines kept skipped = codes "fetched " ++ decimal kept ++ codes " skipped " ++ decimal (length skipped) ++ codes "\n" ++ lines_for skipped_line skipped

-- what `changes` says
unfoldable pub changes_lines : List Change → List ℕ
changes_lines changes = lines_for change_line changes ++ codes "end\n"

-- what `prefs` says
unfoldable pub preferences_lines : List Preference → List ℕ
preferences_lines ps = lines_for preference_line ps ++ codes "end\n"

-- the answer to a command
unfoldable pub answer_lines : Answer → List ℕ
answer_lines Okay = codes "ok\n"
answer_lines (Fetched kept skipped) = fetched_lines kept skipped
answer_lines (Applied enrolled rows) = codes "applied " ++ decimal enrolled ++ codes " of " ++ decimal rows ++ 10 ∷ []
answer_lines (Value tree) = codes "value " ++ text_of (json_of tree) ++ 10 ∷ []
answer_lines (Manifest tree) = codes "manifest " ++ text_of (json_of tree) ++ 10 ∷ []
answer_lines (Changes changes) = changes_lines changes
answer_lines (Preferences preferences) = preferences_lines preferences
answer_lines (Shown id experiments rollouts pending opted_out rows) = shown_lines id experiments rollouts pending opted_out rows
answer_lines (Refused refusal) = refusal_lines refusal

-- the answer to a line that has no command. A blank line has none, and want of memory ends the run without one
abbrev pub fault_answer : LineFault → List ℕ
fault_answer LineTooLong = codes "refused LineTooLong\n"
fault_answer Blank = []
fault_answer UnknownCommand = codes "refused UnknownCommand\n"
fault_answer BadWords = codes "refused BadWords\n"
fault_answer (BadSlug place) = codes "refused BadSlug " ++ decimal place ++ 10 ∷ []
fault_answer BadId = codes "refused BadId\n"
fault_answer OutOfMemory = []
