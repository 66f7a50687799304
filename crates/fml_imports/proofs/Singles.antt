-- No option stands directly in an option in a type that a text spells.
use Rattle.std.proofs.Common.{◌≡◌, ℕ, zero, suc, Bool, true, false, List, Option, Some, None, refl, subst}
use Rattle.std.specs.Prelude.{◌&&◌, not, IsTrue, option_map, option_and_then, bytes_eq, codes, if◌then◌else◌}
use Rattle.fml_types.specs.Shape.{Shape, boolean, int, string, text, image, option, list, map, named}
use Rattle.fml_types.specs.Shapes.{shape_of, type_from}
use Rattle.fml_types.specs.Sound.{has_single_options}
use Rattle.fml_types.specs.TypeTexts.{is_type_name, named_type, simple_type, key_in, cut, closed, is_option, in_option, keyed, map_in, bracketed, closed_type, with_bracket, without_bracket, type_of, spelled, without_end, without_front}

-- the type, where there is one, has no option directly in an option
Singles : Option Shape → Type 0
Singles o = (s : Shape) → o ≡ Some s → IsTrue (has_single_options s)

none_single : Singles None
unfolding Singles
none_single s h = absurd cc

some_single : (s : Shape) → IsTrue (has_single_options s) → Singles (Some s)
unfolding Singles
some_single s single t h = let same : s ≡ t = cc in subst (λ u. IsTrue (has_single_options u)) same single

choose : (c : Bool) (a b : Option Shape) → Singles a → Singles b → Singles (if c then a else b)
choose true a b first second = first
choose false a b first second = second

named_single : (b : List ℕ) → Singles (named_type b)
named_single b = choose (is_type_name b) (Some (named b)) None (some_single (named b) refl) none_single

simple_single : (b : List ℕ) → Singles (simple_type b)
simple_single b =
    choose (bytes_eq b (codes "Boolean")) (Some boolean) _ (some_single boolean refl) (
    choose (bytes_eq b (codes "Int")) (Some int) _ (some_single int refl) (
    choose (bytes_eq b (codes "String")) (Some string) _ (some_single string refl) (
    choose (bytes_eq b (codes "Text")) (Some text) _ (some_single text refl) (
    choose (bytes_eq b (codes "Image")) (Some image) (named_type b) (some_single image refl) (named_single b)))))

both_true : (a b : Bool) → a ≡ false → b ≡ true → (not a && b) ≡ true
both_true true b first second = absurd cc
both_true false b first second = second

option-single : (c : Bool) (s : Shape) → is_option s ≡ c → IsTrue (has_single_options s) → Singles (if c then None else Some (option s))
option-single true s is single = none_single
option-single false s is single = some_single (option s) (both_true (is_option s) (has_single_options s) is single)

option_single : (o : Option Shape) → Singles o → Singles (option_and_then in_option o)
unfolding Singles
option_single None singles = none_single
option_single (Some s) singles = option-single (is_option s) s refl (singles s refl)

list_single : (o : Option Shape) → Singles o → Singles (option_map list o)
unfolding Singles
list_single None singles = none_single
list_single (Some s) singles = some_single (list s) (singles s refl)

keyed_single : (k : Option (Option (List ℕ))) (o : Option Shape) → Singles o → Singles (keyed k o)
unfolding Singles
keyed_single None o singles = none_single
keyed_single (Some k) None singles = none_single
keyed_single (Some k) (Some s) singles = some_single (map k s) (singles s refl)

map-single : (read : List ℕ → Option Shape) → ((b : List ℕ) → Singles (read b)) → (o : Option (List ℕ × List ℕ)) → Singles (option_and_then (λ p. keyed (key_in (without_end p.0)) (read (without_front p.1))) o)
map-single read singles None = none_single
map-single read singles (Some p) = keyed_single (key_in (without_end p.0)) (read (without_front p.1)) (singles (without_front p.1))

map_single : (read : List ℕ → Option Shape) → ((b : List ℕ) → Singles (read b)) → (inside : List ℕ) → Singles (map_in read inside)
unfolding map_in
map_single read singles inside = map-single read singles (cut 44 inside)

bracketed_single : (read : List ℕ → Option Shape) → ((b : List ℕ) → Singles (read b)) → (word inside : List ℕ) → Singles (bracketed read word inside)
unfolding bracketed
bracketed_single read singles word inside =
    choose (bytes_eq word (codes "Option")) (option_and_then in_option (read inside)) _ (option_single (read inside) (singles inside)) (
    choose (bytes_eq word (codes "List")) (option_map list (read inside)) _ (list_single (read inside) (singles inside)) (
    choose (bytes_eq word (codes "Map")) (map_in read inside) None (map_single read singles inside) none_single))

closed_single : (read : List ℕ → Option Shape) → ((b : List ℕ) → Singles (read b)) → (word : List ℕ) (o : Option (List ℕ)) → Singles (closed_type read word o)
closed_single read singles word None = none_single
closed_single read singles word (Some inside) = bracketed_single read singles word inside

with_single : (read : List ℕ → Option Shape) → ((b : List ℕ) → Singles (read b)) → (b : List ℕ) (o : Option (List ℕ × List ℕ)) → Singles (with_bracket read b o)
with_single read singles b None = simple_single b
with_single read singles b (Some p) = closed_single read singles (without_end p.0) (closed p.1)

without_single : (b : List ℕ) (o : Option (List ℕ × List ℕ)) → Singles (without_bracket b o)
without_single b None = simple_single b
without_single b (Some p) = none_single

types_single : (levels : ℕ) (b : List ℕ) → Singles (type_of levels b)
types_single zero b = without_single b (cut 60 b)
types_single (suc levels) b = with_single (type_of levels) (types_single levels) b (cut 60 b)

pub spelled_single : (b : List ℕ) (s : Shape) → spelled b ≡ Some s → IsTrue (has_single_options s)
unfolding Singles
spelled_single b = types_single 8 b

-- the shape of a shape's type
pub same_shapes : (s : Shape) → shape_of (type_from s) ≡ s
same_shapes boolean = refl
same_shapes int = refl
same_shapes string = refl
same_shapes text = refl
same_shapes image = refl
same_shapes (option s) = refl
same_shapes (list s) = refl
same_shapes (map None s) = refl
same_shapes (map (Some n) s) = refl
same_shapes (named n) = refl
