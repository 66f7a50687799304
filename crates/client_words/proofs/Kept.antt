-- What the command of a line keeps: its slugs are slugs, its id has sixteen bytes, an event has a name and a count, and a preference has a name and a value.
use Rattle.std.proofs.Common.{◌≡◌, ◌≤◌, ℕ, Bool, true, false, List, [], ◌∷◌, length, refl, Option, Some, None, Result, Ok, Err, IfOk, arith}
use Rattle.std.specs.Prelude.{IsTrue, nat_lt, bytes_eq, codes, if◌then◌else◌}
use Rattle.std.specs.Str.{is_utf8}
use Rattle.std.specs.Str.Parse.{digits_value}
use Rattle.std.proofs.lemmas.Bool.Decides.{nat_tests}
use Rattle.plain_text.specs.Names.{bad_place, is_name}
use Rattle.uuid.specs.Text.{parsed}
use Rattle.enrol_states.specs.Consistent.{IsId}
use Rattle.enrol_states.specs.Statuses.{IsSlug}
use Rattle.pref_bindings.specs.Preferences.{IsValue}
use Rattle.client_words.specs.declared.command.Command.{Command}
use Rattle.client_words.specs.declared.command.Command.TheVariants.{Apply, Show, WriteManifest, Changes, Preferences}
use Rattle.client_words.specs.declared.line.LineFault.{LineFault}
use Rattle.client_words.specs.declared.line.LineFault.TheVariants.{BadWords}
use Rattle.client_words.specs.Commands.{IsCommand, words_of, ◌>>=◌, yes_or_no_in, kinds_in, text_in, unless_bad, slug_in, id_read, id_in, of_one, of_two, manifest_command, context_command, fetch_command, alone, participate_command, opt_out_command, opt_in_command, reset_command, feature_command, name_in, is_count, count_in, event_command, number_in, confirm_command, bind_command, value_in, set_preference_command, clear_preference_command, command_named, command_of_words, command_of}
use Rattle.client_words.proofs.Ids.{IsIdIn, id_in_text}
use Rattle.client_words.proofs.Values.{is_value_in}

abbrev Kept : Result Command LineFault → Type 0
Kept read = IfOk read IsCommand

either : (b : Bool) (x y : Result Command LineFault) → Kept x → Kept y → Kept (if b then x else y)
either true x y here there = here
either false x y here there = there

bound : {A : Type 0} (P : A → Type 0) (read : Result A LineFault) (f : A → Result Command LineFault) → IfOk read P → ((a : A) → P a → Kept (f a)) → Kept (read >>= f)
bound P (Ok a) f has follows = follows a has
bound P (Err fault) f has follows = tt

-- a command of which nothing is asked
free : {A : Type 0} (read : Result A LineFault) (f : A → Result Command LineFault) → ((a : A) → Kept (f a)) → Kept (read >>= f)
free (Ok a) f follows = follows a
free (Err fault) f follows = tt

slug_unless : (word : List ℕ) (place : Option ℕ) → bad_place word ≡ place → IfOk (unless_bad word place) IsSlug
slug_unless word None e = e
slug_unless word (Some place) e = tt

is_slug : (word : List ℕ) → IfOk (slug_in word) IsSlug
unfolding slug_in
is_slug word = slug_unless word (bad_place word) refl

id_where : (found : Option (List ℕ)) → IsIdIn found → IfOk (id_read found) IsId
id_where None is = tt
id_where (Some id) is = is

is_id : (word : List ℕ) → IfOk (id_in word) IsId
unfolding id_in
is_id word = id_where (parsed word) (id_in_text word)

text_where : (word : List ℕ) (b : Bool) → is_utf8 word ≡ b → IsTrue (is_name word) → IfOk (if b then Ok word else Err BadWords) (λ name. IsTrue (is_name name))
text_where word true e is = is
text_where word false e is = tt

text_is_named : (word : List ℕ) → IsTrue (is_name word) → IfOk (text_in word) (λ name. IsTrue (is_name name))
unfolding text_in
text_is_named word is = text_where word (is_utf8 word) refl is

named_where : (word : List ℕ) (b : Bool) → is_name word ≡ b → IfOk (if b then text_in word else Err BadWords) (λ name. IsTrue (is_name name))
named_where word true e = text_is_named word e
named_where word false e = tt

is_named : (word : List ℕ) → IfOk (name_in word) (λ name. IsTrue (is_name name))
is_named word = named_where word (is_name word) refl

abbrev IsCounted : ℕ → Type 0
IsCounted count = (1 ≤ count) × (count ≤ 1000000)

counted_where : (n : ℕ) (word : List ℕ) (b : Bool) → is_count n word ≡ b → IfOk (if b then Ok n else Err BadWords) IsCounted
counted_where n word true e = (grind (arith, nat_tests, e), grind (arith, nat_tests, e))
counted_where n word false e = tt

is_counted : (word : List ℕ) → IfOk (count_in word) IsCounted
unfolding count_in
is_counted word = counted_where (digits_value 10 word) word (is_count (digits_value 10 word) word) refl

-- ---- the words of a command

one-kept : (made : List ℕ → Result Command LineFault) → ((word : List ℕ) → Kept (made word)) → (words : List (List ℕ)) → Kept (of_one made words)
one-kept made follows [] = tt
one-kept made follows (word ∷ []) = follows word
one-kept made follows (word ∷ next ∷ more) = tt

two-kept : (made : List ℕ → List ℕ → Result Command LineFault) → ((word next : List ℕ) → Kept (made word next)) → (words : List (List ℕ)) → Kept (of_two made words)
two-kept made follows [] = tt
two-kept made follows (word ∷ []) = tt
two-kept made follows (word ∷ next ∷ []) = follows word next
two-kept made follows (word ∷ next ∷ more ∷ rest) = tt

manifest-kept : (words : List (List ℕ)) → Kept (manifest_command words)
manifest-kept words = two-kept _ (λ word next. free (text_in word) _ (λ file. free (text_in next) _ (λ channel. tt))) words

context-kept : (words : List (List ℕ)) → Kept (context_command words)
context-kept words = one-kept _ (λ word. free (text_in word) _ (λ file. tt)) words

fetch-kept : (words : List (List ℕ)) → Kept (fetch_command words)
fetch-kept words = one-kept _ (λ word. free (text_in word) _ (λ file. tt)) words

alone-kept : (command : Command) (words : List (List ℕ)) → IsCommand command → Kept (alone command words)
alone-kept command [] is = is
alone-kept command (word ∷ more) is = tt

participate-kept : (words : List (List ℕ)) → Kept (participate_command words)
participate-kept [] = tt
participate-kept (word ∷ []) = free (yes_or_no_in word) _ (λ on. tt)
participate-kept (word ∷ next ∷ []) = free (kinds_in word) _ (λ kinds. free (yes_or_no_in next) _ (λ on. tt))
participate-kept (word ∷ next ∷ more ∷ rest) = tt

opt_out-kept : (words : List (List ℕ)) → Kept (opt_out_command words)
opt_out-kept words = one-kept _ (λ word. bound IsSlug (slug_in word) _ (is_slug word) (λ slug is. is)) words

opt_in-kept : (words : List (List ℕ)) → Kept (opt_in_command words)
opt_in-kept words = two-kept _ (λ word next. bound IsSlug (slug_in word) _ (is_slug word) (λ slug is. bound IsSlug (slug_in next) _ (is_slug next) (λ branch also. (is, also)))) words

reset-kept : (words : List (List ℕ)) → Kept (reset_command words)
reset-kept words = one-kept _ (λ word. bound IsId (id_in word) _ (is_id word) (λ id is. is)) words

feature-kept : (words : List (List ℕ)) → Kept (feature_command words)
feature-kept words = one-kept _ (λ word. free (text_in word) _ (λ name. tt)) words

event-kept : (words : List (List ℕ)) → Kept (event_command words)
event-kept words = two-kept _ (λ word next.
    bound (λ name. IsTrue (is_name name)) (name_in word) _ (is_named word) (λ name named.
    bound IsCounted (count_in next) _ (is_counted next) (λ count counted. record { name = named; least = counted.0; most = counted.1 }))) words

confirm-kept : (words : List (List ℕ)) → Kept (confirm_command words)
confirm-kept words = one-kept _ (λ word. free (number_in word) _ (λ number. tt)) words

bind-kept : (words : List (List ℕ)) → Kept (bind_command words)
bind-kept words = one-kept _ (λ word. free (text_in word) _ (λ file. tt)) words

set_preference-kept : (words : List (List ℕ)) → Kept (set_preference_command words)
set_preference-kept words = two-kept _ (λ word next.
    bound (λ name. IsTrue (is_name name)) (name_in word) _ (is_named word) (λ name named. bound IsValue (value_in next) _ (is_value_in next) (λ value is. (named, is)))) words

clear_preference-kept : (words : List (List ℕ)) → Kept (clear_preference_command words)
clear_preference-kept words = one-kept _ (λ word. bound (λ name. IsTrue (is_name name)) (name_in word) _ (is_named word) (λ name named. named)) words

named-kept : (name : List ℕ) (words : List (List ℕ)) → Kept (command_named name words)
named-kept name words =
    either (bytes_eq name (codes "manifest")) _ _ (manifest-kept words)
    (either (bytes_eq name (codes "context")) _ _ (context-kept words)
    (either (bytes_eq name (codes "fetch")) _ _ (fetch-kept words)
    (either (bytes_eq name (codes "apply")) _ _ (alone-kept Apply words tt)
    (either (bytes_eq name (codes "participate")) _ _ (participate-kept words)
    (either (bytes_eq name (codes "opt-out")) _ _ (opt_out-kept words)
    (either (bytes_eq name (codes "opt-in")) _ _ (opt_in-kept words)
    (either (bytes_eq name (codes "reset")) _ _ (reset-kept words)
    (either (bytes_eq name (codes "show")) _ _ (alone-kept Show words tt)
    (either (bytes_eq name (codes "feature")) _ _ (feature-kept words)
    (either (bytes_eq name (codes "write-manifest")) _ _ (alone-kept WriteManifest words tt)
    (either (bytes_eq name (codes "event")) _ _ (event-kept words)
    (either (bytes_eq name (codes "changes")) _ _ (alone-kept Changes words tt)
    (either (bytes_eq name (codes "confirm")) _ _ (confirm-kept words)
    (either (bytes_eq name (codes "bind")) _ _ (bind-kept words)
    (either (bytes_eq name (codes "set-pref")) _ _ (set_preference-kept words)
    (either (bytes_eq name (codes "clear-pref")) _ _ (clear_preference-kept words)
    (either (bytes_eq name (codes "prefs")) _ _ (alone-kept Preferences words tt) tt)))))))))))))))))

words-kept : (words : List (List ℕ)) → Kept (command_of_words words)
words-kept [] = tt
words-kept (name ∷ arguments) = named-kept name arguments

-- the parts of a line's command are what their types keep
pub line-kept : (line : List ℕ) → IfOk (command_of line) IsCommand
unfolding command_of
line-kept line = either (nat_lt 4096 (length line)) _ _ tt (words-kept (words_of line))
