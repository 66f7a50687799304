-- The version order of the toolkit version format, over the bytes of two texts.
--     version    parts with a dot between each two
--     part       `*`, or number-a string-b number-c string-d, where each may be missing
use Rattle.std.specs.Prelude.{ℕ, ◌-◌, ◌^◌, ℤ, pos, neg_ℤ, ◌+ℤ◌, Bool, false, if◌then◌else◌, ◌==◌, nat_lt, List, [], ◌∷◌, ◌++◌, map, length, replicate, codes, Option, Some, None}
use Rattle.std.specs.Char.{is_ascii_digit}
use Rattle.std.specs.Cmp.Lexicographic.{slice_cmp}
use Rattle.std.specs.Ordering.{nat_cmp, int_cmp, ordering_then}
use Rattle.std.specs.declared.cmp.Ordering.{Ordering}
use Rattle.std.specs.declared.cmp.Ordering.TheVariants.{Less, Equal, Greater}
use Rattle.sequences.specs.Runs.{run, value_from}
use Rattle.version_compare.specs.Bytes.{is_string_byte}

-- ---- the parts of a version

-- A part. Number-a is none where it is infinite, and a string without bytes is none
pub record Part : Type 0 where
  pub number_a : Option ℤ
  pub string_b : Option (List ℕ)
  pub number_c : ℤ
  pub string_d : Option (List ℕ)

-- the number that the digits write; more than 18 digits count as 10 ^ 18
abbrev pub magnitude : List ℕ → ℕ
magnitude digits = if nat_lt 18 (length digits) then 10 ^ 18 else value_from 0 digits

abbrev pub number_of_digits : List ℕ × List ℕ → ℤ × List ℕ
number_of_digits x = (pos (magnitude x.0), x.1)

-- a `-` without a digit after it is no number, and stays
abbrev pub number_below_zero : List ℕ → List ℕ → List ℕ → ℤ × List ℕ
number_below_zero bs [] rest = (pos 0, 45 ∷ bs)
number_below_zero bs (digit ∷ digits) rest = (neg_ℤ (pos (magnitude (digit ∷ digits))), rest)

abbrev pub number_after_minus : List ℕ → List ℕ × List ℕ → ℤ × List ℕ
number_after_minus bs x = number_below_zero bs x.0 x.1

-- the number in front, an optional `-` and at least one digit, or 0 where there is none; and the
-- bytes after it
abbrev pub number_in_front : List ℕ → ℤ × List ℕ
number_in_front [] = (pos 0, [])
number_in_front (b ∷ bs) = if b == 45
    then number_after_minus bs (run is_ascii_digit bs)
    else number_of_digits (run is_ascii_digit (b ∷ bs))

abbrev pub string_of : List ℕ → Option (List ℕ)
string_of [] = None
string_of (b ∷ bs) = Some (b ∷ bs)

abbrev pub infinite_part : Part
infinite_part = record { number_a = None; string_b = None; number_c = pos 0; string_d = None }

-- `1+` stands for `2pre`, whatever follows it in the part
abbrev pub raised_part : ℤ → Part
raised_part n = record { number_a = Some (n +ℤ pos 1); string_b = Some (codes "pre"); number_c = pos 0; string_d = None }

abbrev pub part_of_pieces : ℤ → List ℕ → ℤ × List ℕ → Part
part_of_pieces n string y = record { number_a = Some n; string_b = string_of string; number_c = y.0; string_d = string_of y.1 }

abbrev pub part_with_string : ℤ → List ℕ × List ℕ → Part
part_with_string n x = part_of_pieces n x.0 (number_in_front x.1)

abbrev pub is_plus_in_front : List ℕ → Bool
is_plus_in_front [] = false
is_plus_in_front (b ∷ bs) = b == 43

abbrev pub finite_part : ℤ × List ℕ → Part
finite_part x = if is_plus_in_front x.1
    then raised_part x.0
    else part_with_string x.0 (run is_string_byte x.1)

abbrev pub is_star : List ℕ → Bool
is_star [] = false
is_star (b ∷ []) = b == 42
is_star (b ∷ c ∷ bs) = false

abbrev pub part_of : List ℕ → Part
part_of bs = if is_star bs then infinite_part else finite_part (number_in_front bs)

abbrev pub empty_part : Part
empty_part = part_of []

-- a byte in front of the first of some texts
abbrev pub with_first_byte : ℕ → List (List ℕ) → List (List ℕ)
with_first_byte b [] = (b ∷ []) ∷ []
with_first_byte b (w ∷ ws) = (b ∷ w) ∷ ws

-- the texts between the dots
unfoldable pub split : List ℕ → List (List ℕ)
split [] = [] ∷ []
split (b ∷ bs) = if b == 46 then [] ∷ split bs else with_first_byte b (split bs)

abbrev pub parts : List ℕ → List Part
parts bs = map part_of (split bs)

-- ---- the order of two versions

-- the order where a missing value is above every other
abbrev pub missing_last : {K : Type 0} → (K → K → Ordering) → Option K → Option K → Ordering
missing_last cmp None None = Equal
missing_last cmp None (Some y) = Greater
missing_last cmp (Some x) None = Less
missing_last cmp (Some x) (Some y) = cmp x y

abbrev pub string_cmp : Option (List ℕ) → Option (List ℕ) → Ordering
string_cmp x y = missing_last (slice_cmp nat_cmp) x y

-- by number-a, then by string-b, then by number-c, then by string-d
abbrev pub part_cmp : Part → Part → Ordering
part_cmp p q = ordering_then (missing_last int_cmp p.number_a q.number_a)
    (ordering_then (string_cmp p.string_b q.string_b)
    (ordering_then (int_cmp p.number_c q.number_c) (string_cmp p.string_d q.string_d)))

-- the parts with empty ones after them, so that they are as many as the others at least
abbrev pub filled : List Part → List Part → List Part
filled ps others = ps ++ replicate (length others - length ps) empty_part

-- part by part, the shorter list filled with empty parts
unfoldable pub parts_cmp : List Part → List Part → Ordering
parts_cmp ps qs = slice_cmp part_cmp (filled ps qs) (filled qs ps)

abbrev pub version_order : List ℕ → List ℕ → Ordering
version_order a b = parts_cmp (parts a) (parts b)
