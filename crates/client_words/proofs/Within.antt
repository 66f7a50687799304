-- The spans of the lines and of the words of a text lie within it.
use Rattle.std.proofs.Common.{◌≡◌, ◌≤◌, ◌<◌, ℕ, zero, suc, ◌+◌, ◌-◌, ◌==◌, Bool, true, false, cond, List, [], ◌∷◌, length, All, map, refl, ap, arith}
use Rattle.std.specs.Prelude.{if◌then◌else◌, slice_index}
use Rattle.std.specs.List.{slice_split, onto_first}
use Rattle.std.proofs.lemmas.List.Elements.{All-append, All-nil}
use Rattle.std.proofs.lemmas.List.Splits.{length-slice_split}
use Rattle.plain_text.specs.Spans.{lines, words, line_spans, word_spans, word_span, trimmed_len, is_line_end, is_blank}
use Rattle.client_words.specs.Commands.{IsWithin, bytes_at, lines_of}

-- how long the parts are, each with the byte behind it
extent : List (List ℕ) → ℕ
extent [] = 0
extent (part ∷ parts) = length part + 1 + extent parts

extent-onto_first : (x : ℕ) (parts : List (List ℕ)) → 0 < length parts → extent (onto_first x parts) ≡ 1 + extent parts
unfolding extent
extent-onto_first x [] some = absurd (omega (arith, some))
extent-onto_first x (part ∷ parts) some = omega arith

extent_step : (b : Bool) (x n : ℕ) (parts : List (List ℕ)) → 0 < length parts → extent parts ≡ n + 1 → extent (cond b ([] ∷ parts) (onto_first x parts)) ≡ suc n + 1
unfolding extent
extent_step true x n parts some same = omega (arith, same)
extent_step false x n parts some same = omega (arith, extent-onto_first x parts some, same)

extent-slice_split : (p : ℕ → Bool) (xs : List ℕ) → extent (slice_split p xs) ≡ length xs + 1
unfolding extent
extent-slice_split p [] = refl
extent-slice_split p (x ∷ xs) = extent_step (p x) x (length xs) (slice_split p xs) (omega (arith, length-slice_split p xs)) (extent-slice_split p xs)

module _ (n : ℕ) where
  at_most_one : (b : Bool) (span : ℕ × ℕ) → IsWithin n span → All (IsWithin n) (if b then [] else span ∷ [])
  at_most_one true span within k d less = absurd (omega (arith, less))
  at_most_one false span within zero d less = within
  at_most_one false span within (suc k) d less = absurd (omega (arith, less))

  words_within : (i : ℕ) (parts : List (List ℕ)) → i + extent parts ≤ n + 1 → All (IsWithin n) (word_spans i parts)
  unfolding extent
  words_within i [] most = All-nil (IsWithin n)
  words_within i (part ∷ parts) most =
      All-append (IsWithin n) (word_span i part) (word_spans (i + length part + 1) parts) (at_most_one (length part == 0) (i, i + length part) (omega arith, omega (arith, most)))
      (words_within (i + length part + 1) parts (omega (arith, most)))

  cut : (b : Bool) (len : ℕ) → (if b then len - 1 else len) ≤ len
  cut true len = omega arith
  cut false len = omega arith

  trimmed : (part : List ℕ) → trimmed_len part ≤ length part
  trimmed part = cut (slice_index part (length part - 1) == 13) (length part)

  lines_within : (i : ℕ) (parts : List (List ℕ)) → i + extent parts ≤ n + 1 → All (IsWithin n) (line_spans i parts)
  unfolding extent
  lines_within i [] most = All-nil (IsWithin n)
  lines_within i (part ∷ []) most = at_most_one (length part == 0) (i, i + trimmed_len part) (omega arith, omega (arith, most, trimmed part))
  lines_within i (part ∷ next ∷ more) most =
      All-append (IsWithin n) ((i, i + trimmed_len part) ∷ []) (line_spans (i + length part + 1) (next ∷ more)) (at_most_one false (i, i + trimmed_len part) (omega arith, omega (arith, most, trimmed part)))
      (lines_within (i + length part + 1) (next ∷ more) (omega (arith, most)))

pub words-within : (line : List ℕ) → All (IsWithin (length line)) (words line)
words-within line = words_within (length line) 0 (slice_split is_blank line) (omega (arith, extent-slice_split is_blank line))

pub lines-within : (script : List ℕ) → All (IsWithin (length script)) (lines script)
lines-within script = lines_within (length script) 0 (slice_split is_line_end script) (omega (arith, extent-slice_split is_line_end script))

-- the lines at the spans of a script's lines
pub lines_at : (script : List ℕ) (spans : List (ℕ × ℕ)) → spans ≡ lines script → map (bytes_at script) spans ≡ lines_of script
unfolding lines_of
lines_at script spans is = ap (map (bytes_at script)) is
