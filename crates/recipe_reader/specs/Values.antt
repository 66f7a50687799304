-- What a single value of a record says.
use Rattle.std.specs.Prelude.{ℕ, ◌==◌, ◌&&◌, ◌||◌, nat_le, nat_lt, not, ℤ, pos, negsuc, Bool, true, false, List, [], ◌∷◌, length, Option, Some, None, option_and_then, bytes_eq, codes, if◌then◌else◌}
use Rattle.std.specs.List.{list_all}
use Rattle.std.specs.Option.{is_some}
use Rattle.json_tree.specs.Json.{Json, null, truth, whole, text, object, get}
use Rattle.plain_text.specs.Names.{bad_place}
use Rattle.plain_text.specs.Moments.{moment}
use Rattle.recipe_reader.specs.Outcome.{only_if}

abbrev pub as_text : Json → Option (List ℕ)
as_text (text s) = Some s
as_text x = None

-- what the key's text is, where it has one
abbrev pub text_at : List ℕ → Json → Option (List ℕ)
text_at k x = option_and_then as_text (get k x)

-- the whole number, where it is from low to high
abbrev pub count_within : ℤ → ℕ → ℕ → Option ℕ
count_within (pos n) low high = only_if (nat_le low n && nat_le n high) n
count_within (negsuc n) low high = None

abbrev pub as_count : ℕ → ℕ → Json → Option ℕ
as_count low high (whole n) = count_within n low high
as_count low high x = None

-- the key's whole number, where it has one from low to high
abbrev pub count_at : List ℕ → ℕ → ℕ → Json → Option ℕ
count_at k low high x = option_and_then (as_count low high) (get k x)

abbrev pub is_object : Json → Bool
is_object (object ms) = true
is_object x = false

abbrev pub is_null : Json → Bool
is_null null = true
is_null x = false

-- the value, where it is there and not null
abbrev pub present : Option Json → Option Json
present None = None
present (Some x) = only_if (not (is_null x)) x

abbrev pub is_slug : List ℕ → Bool
is_slug s = not (is_some (bad_place s))

-- the part before the first `.`, which has code 46
abbrev pub before_dot : List ℕ → List ℕ
before_dot [] = []
before_dot (x ∷ s) = if x == 46 then [] else x ∷ before_dot s

abbrev pub is_schema : List ℕ → Bool
is_schema s = bytes_eq (before_dot s) (codes "1")

abbrev pub is_sized : ℕ → ℕ → List ℕ → Bool
is_sized low high s = nat_le low (length s) && nat_le (length s) high

-- nothing where it is absent or null, or the text
abbrev pub optional_text : Option Json → Option (Option (List ℕ))
optional_text None = Some None
optional_text (Some null) = Some None
optional_text (Some (text s)) = Some (Some s)
optional_text (Some x) = None

-- a truth value; absent it is false
abbrev pub truth_or_absent : Option Json → Option Bool
truth_or_absent None = Some false
truth_or_absent (Some (truth b)) = Some b
truth_or_absent (Some x) = None

-- a truth value; absent or null it is false
abbrev pub optional_truth : Option Json → Option Bool
optional_truth (Some null) = Some false
optional_truth x = truth_or_absent x

-- a text that the test refuses counts as absent
abbrev pub kept_if : (List ℕ → Bool) → Option (List ℕ) → Option (List ℕ)
kept_if test None = None
kept_if test (Some s) = only_if (test s) s

abbrev pub has_bytes : List ℕ → Bool
has_bytes s = nat_lt 0 (length s)

-- a space, a tab, a line feed or a carriage return
abbrev pub is_blank : ℕ → Bool
is_blank x = x == 32 || x == 9 || x == 10 || x == 13

abbrev pub has_more_than_blanks : List ℕ → Bool
has_more_than_blanks s = not (list_all is_blank s)

abbrev pub is_moment : List ℕ → Bool
is_moment s = is_some (moment s)
