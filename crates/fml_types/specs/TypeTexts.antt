-- Which type a text spells.
use Rattle.std.specs.Prelude.{◌≡◌, ℕ, zero, suc, ◌==◌, ◌+◌, ◌-◌, ◌||◌, ◌&&◌, not, Bool, true, false, List, [], ◌∷◌, length, take, drop, slice_index, position, Option, Some, None, option_map, option_and_then, Result, Ok, Err, bytes_eq, codes, if◌then◌else◌}
use Rattle.plain_text.specs.Names.{is_name}
use Rattle.fml_types.specs.Shape.{Shape, boolean, int, string, text, image, option, list, map, named}
use Rattle.fml_types.specs.Shapes.{shape_of}
use Rattle.fml_types.specs.declared.field_type.FieldType.{FieldType}
use Rattle.fml_types.specs.declared.type_text.TypeFault.{TypeFault}
use Rattle.fml_types.specs.declared.type_text.TypeFault.TheVariants as faults

-- the three words before a bracket
abbrev pub is_bracket_word : List ℕ → Bool
is_bracket_word b = bytes_eq b (codes "Option") || bytes_eq b (codes "List") || bytes_eq b (codes "Map")

-- the five words that are types
abbrev pub is_simple_word : List ℕ → Bool
is_simple_word b = bytes_eq b (codes "Boolean") || bytes_eq b (codes "Int") || bytes_eq b (codes "String") || bytes_eq b (codes "Text") || bytes_eq b (codes "Image")

-- a name that a type may have
abbrev pub is_type_name : List ℕ → Bool
is_type_name b = is_name b && not (is_simple_word b || is_bracket_word b)

abbrev pub named_type : List ℕ → Option Shape
named_type b = if is_type_name b then Some (named b) else None

-- a type without a bracket
abbrev pub simple_type : List ℕ → Option Shape
simple_type b =
    if bytes_eq b (codes "Boolean") then Some boolean else if bytes_eq b (codes "Int") then Some int else if bytes_eq b (codes "String") then Some string
    else if bytes_eq b (codes "Text") then Some text else if bytes_eq b (codes "Image") then Some image else named_type b

-- what a map is keyed by
unfoldable pub key_in : List ℕ → Option (Option (List ℕ))
key_in b = if bytes_eq b (codes "String") then Some None else if is_type_name b then Some (Some b) else None

-- what stands before the first such byte, and what after it
abbrev pub cut : ℕ → List ℕ → Option (List ℕ × List ℕ)
cut c b = option_map (λ i. (take i b, drop (i + 1) b)) (position (λ x. x == c) b)

-- without the spaces at its front
abbrev pub without_front : List ℕ → List ℕ
without_front [] = []
without_front (x ∷ b) = if x == 32 then without_front b else x ∷ b

-- one more byte before a text that has no space at its end
abbrev pub onto : ℕ → List ℕ → List ℕ
onto x [] = if x == 32 then [] else x ∷ []
onto x (y ∷ b) = x ∷ y ∷ b

-- without the spaces at its end
abbrev pub without_end : List ℕ → List ℕ
without_end [] = []
without_end (x ∷ b) = onto x (without_end b)

-- what stands before the bracket that ends it, which has code 62
abbrev pub closed : List ℕ → Option (List ℕ)
closed b = if slice_index b (length b - 1) == 62 then Some (without_front (without_end (take (length b - 1) b))) else None

abbrev pub is_option : Shape → Bool
is_option (option s) = true
is_option s = false

-- no option stands directly in an option
abbrev pub in_option : Shape → Option Shape
in_option s = if is_option s then None else Some (option s)

abbrev pub keyed : Option (Option (List ℕ)) → Option Shape → Option Shape
keyed None inner = None
keyed (Some k) inner = option_map (map k) inner

-- a map of what stands around the first comma, which has code 44
unfoldable pub map_in : (List ℕ → Option Shape) → List ℕ → Option Shape
map_in read inside = option_and_then (λ p. keyed (key_in (without_end p.0)) (read (without_front p.1))) (cut 44 inside)

-- a word with what stands in its bracket
unfoldable pub bracketed : (List ℕ → Option Shape) → List ℕ → List ℕ → Option Shape
bracketed read word inside =
    if bytes_eq word (codes "Option") then option_and_then in_option (read inside)
    else if bytes_eq word (codes "List") then option_map list (read inside)
    else if bytes_eq word (codes "Map") then map_in read inside else None

abbrev pub closed_type : (List ℕ → Option Shape) → List ℕ → Option (List ℕ) → Option Shape
closed_type read word None = None
closed_type read word (Some inside) = bracketed read word inside

abbrev pub with_bracket : (List ℕ → Option Shape) → List ℕ → Option (List ℕ × List ℕ) → Option Shape
with_bracket read b None = simple_type b
with_bracket read b (Some p) = closed_type read (without_end p.0) (closed p.1)

abbrev pub without_bracket : List ℕ → Option (List ℕ × List ℕ) → Option Shape
without_bracket b None = simple_type b
without_bracket b (Some p) = None

-- a type of at most so many brackets inside one another; the first bracket that opens has code 60
abbrev pub type_of : ℕ → List ℕ → Option Shape
type_of zero b = without_bracket b (cut 60 b)
type_of (suc levels) b = with_bracket (type_of levels) b (cut 60 b)

-- the type that a text spells
abbrev pub spelled : List ℕ → Option Shape
spelled b = type_of 8 b

-- want of memory is the one free answer
abbrev pub GivesType : Result FieldType TypeFault → Option Shape → Type 0
GivesType (Ok t) read = read ≡ Some (shape_of t)
GivesType (Err faults.BadType) read = read ≡ None
GivesType (Err faults.OutOfMemory) read = Unit {0}
