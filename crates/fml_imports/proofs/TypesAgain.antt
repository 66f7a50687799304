-- The text of a type spells the type.
use Rattle.std.proofs.Common.{◌≡◌, ℕ, zero, suc, ◌+◌, ◌-◌, ◌<◌, ◌≤◌, Bool, true, false, List, [], ◌∷◌, ◌++◌, length, take, drop, Option as Maybe, Some, None, refl, sym, ap, ◌∙◌, append_assoc, length-append, arith}
use Rattle.std.specs.Prelude.{◌&&◌, ◌||◌, not, ◌==◌, cond, codes, nat_lt, nat_le, slice_index, bytes_eq, position, option_map, option_and_then, if◌then◌else◌}
use Rattle.std.specs.List.{list_all, position_or_len}
use Rattle.std.specs.Cmp.{first_so, second_so}
use Rattle.std.proofs.lemmas.Bool.{eqb-true, eq-eqb, lt-ltb, le-ltb, or_parts, and_from, not-true, cond-true, cond-false}
use Rattle.std.proofs.Math.Seq.{take-append_seam, drop-append-add, get_or-append_seam}
use Rattle.plain_text.specs.Names.{is_name_byte, is_name}
use Rattle.fml_types.specs.Shape.{Shape, boolean, int, string, text, image, option, list, map, named, height}
use Rattle.fml_types.specs.Sound.{has_single_options}
use Rattle.fml_types.specs.TypeTexts.{is_type_name, is_simple_word, is_bracket_word, named_type, simple_type, key_in, cut, closed, is_option, in_option, keyed, map_in, bracketed, closed_type, with_bracket, without_bracket, type_of, spelled, onto, without_end, without_front}
use Rattle.fml_imports.specs.Single.{key_text, type_text}
use Rattle.fml_imports.specs.WellFormed.{has_type_names, IsSpelledType}

-- ---- tests

none_of : (a b c d e : Bool) → (a || b || c || d || e) ≡ false → (a ≡ false) × (b ≡ false) × (c ≡ false) × (d ≡ false) × (e ≡ false)
none_of true b c d e h = absurd cc
none_of false true c d e h = absurd cc
none_of false false true d e h = absurd cc
none_of false false false true e h = absurd cc
none_of false false false false e h = (refl, refl, refl, refl, h)

same_test : (c : ℕ) → (c == c) ≡ true
same_test c = eq-eqb c c refl

same_length : (n : ℕ) → nat_lt n n ≡ false
same_length n = le-ltb n n (omega arith)

-- ---- the first of a byte

abbrev lacks : ℕ → List ℕ → Bool
lacks c b = list_all (λ x. not (x == c)) b

one_more : (m n : ℕ) → m ≡ n → 1 + m ≡ suc n
one_more m n h = omega arith

length_before : (c : ℕ) (b rest : List ℕ) → lacks c b ≡ true → position_or_len (λ x. x == c) (b ++ c ∷ rest) ≡ length b
length_before c [] rest h = cond-false (not (c == c)) _ 0 (ap not (same_test c))
length_before c (x ∷ b) rest h = cond-true (not (x == c)) _ 0 (first_so (not (x == c)) (lacks c b) h) ∙ one_more _ (length b) (length_before c b rest (second_so (not (x == c)) (lacks c b) h))

length_whole : (c : ℕ) (b : List ℕ) → lacks c b ≡ true → position_or_len (λ x. x == c) b ≡ length b
length_whole c [] h = refl
length_whole c (x ∷ b) h = cond-true (not (x == c)) _ 0 (first_so (not (x == c)) (lacks c b) h) ∙ one_more _ (length b) (length_whole c b (second_so (not (x == c)) (lacks c b) h))

longer : (c : ℕ) (b rest : List ℕ) → length b < length (b ++ c ∷ rest)
longer c b rest = let whole = length-append b (c ∷ rest) in omega arith

place_before : (c : ℕ) (b rest : List ℕ) → lacks c b ≡ true → position (λ x. x == c) (b ++ c ∷ rest) ≡ Some (length b)
place_before c b rest h =
    ap (λ n. cond (nat_lt n (length (b ++ c ∷ rest))) (Some n) None) (length_before c b rest h)
    ∙ cond-true (nat_lt (length b) (length (b ++ c ∷ rest))) (Some (length b)) None (lt-ltb (length b) (length (b ++ c ∷ rest)) (longer c b rest))

no_place : (c : ℕ) (b : List ℕ) → lacks c b ≡ true → position (λ x. x == c) b ≡ None
no_place c b h =
    ap (λ n. cond (nat_lt n (length b)) (Some n) None) (length_whole c b h) ∙ cond-false (nat_lt (length b) (length b)) (Some (length b)) None (same_length (length b))

cut_before : (c : ℕ) (b rest : List ℕ) → lacks c b ≡ true → cut c (b ++ c ∷ rest) ≡ Some (b, rest)
cut_before c b rest h =
    ap (option_map (λ (i : ℕ). (take i (b ++ c ∷ rest), drop (i + 1) (b ++ c ∷ rest)))) (place_before c b rest h)
    ∙ (λ i. Some (take-append_seam b (c ∷ rest) i, drop-append-add b (c ∷ rest) 1 i))

no_cut : (c : ℕ) (b : List ℕ) → lacks c b ≡ true → cut c b ≡ None
no_cut c b h = ap (option_map (λ (i : ℕ). (take i b, drop (i + 1) b))) (no_place c b h)

-- ---- names

name-apart : (c x : ℕ) (b : Bool) → (x == c) ≡ b → is_name_byte c ≡ false → is_name_byte x ≡ true → not b ≡ true
name-apart c x true same out in' = absurd (let one : x ≡ c = eqb-true x c same in let alike : is_name_byte x ≡ is_name_byte c = ap is_name_byte one in cc)
name-apart c x false same out in' = refl

name_apart : (c x : ℕ) → is_name_byte c ≡ false → is_name_byte x ≡ true → not (x == c) ≡ true
name_apart c x out in' = name-apart c x (x == c) refl out in'

name_lacks : (c : ℕ) (b : List ℕ) → is_name_byte c ≡ false → list_all is_name_byte b ≡ true → lacks c b ≡ true
name_lacks c [] out all = refl
name_lacks c (x ∷ b) out all =
    and_from (not (x == c)) (lacks c b) (name_apart c x out (first_so (is_name_byte x) (list_all is_name_byte b) all)) (name_lacks c b out (second_so (is_name_byte x) (list_all is_name_byte b) all))

name_bytes : (b : List ℕ) → is_type_name b ≡ true → list_all is_name_byte b ≡ true
name_bytes b e = second_so (nat_lt 0 (length b) && nat_le (length b) 80) (list_all is_name_byte b) (first_so (is_name b) (not (is_simple_word b || is_bracket_word b)) e)

name_there : (b : List ℕ) → is_type_name b ≡ true → 0 < length b
name_there [] e = absurd cc
name_there (x ∷ b) e = omega arith

no_simple_word : (b : List ℕ) → is_type_name b ≡ true → is_simple_word b ≡ false
no_simple_word b e = (or_parts (is_simple_word b) (is_bracket_word b) (not-true (is_simple_word b || is_bracket_word b) (second_so (is_name b) (not (is_simple_word b || is_bracket_word b)) e))).0

-- ---- no spaces at the ends

not_space : (x : ℕ) → is_name_byte x ≡ true → (x == 32) ≡ false
not_space x e = not-true (x == 32) (name_apart 32 x refl e)

name_front : (b : List ℕ) → list_all is_name_byte b ≡ true → without_front b ≡ b
name_front [] all = refl
name_front (x ∷ b) all = ap (λ c. if c then without_front b else x ∷ b) (not_space x (first_so (is_name_byte x) (list_all is_name_byte b) all))

name_end : (b : List ℕ) → list_all is_name_byte b ≡ true → without_end b ≡ b
name_end [] all = refl
name_end (x ∷ []) all = ap (λ c. if c then [] else x ∷ []) (not_space x (first_so (is_name_byte x) true all))
name_end (x ∷ y ∷ b) all = ap (onto x) (name_end (y ∷ b) (second_so (is_name_byte x) (list_all is_name_byte (y ∷ b)) all))

bracket_end : (b : List ℕ) → without_end (b ++ 62 ∷ []) ≡ b ++ 62 ∷ []
bracket_end [] = refl
bracket_end (x ∷ []) = refl
bracket_end (x ∷ y ∷ b) = ap (onto x) (bracket_end (y ∷ b))

end-after : (a : List ℕ) (y : ℕ) (b : List ℕ) → without_end (y ∷ b) ≡ y ∷ b → without_end (a ++ y ∷ b) ≡ a ++ y ∷ b
end-after [] y b h = h
end-after (x ∷ []) y b h = ap (onto x) h
end-after (x ∷ z ∷ a) y b h = ap (onto x) (end-after (z ∷ a) y b h)

end_after : (a b : List ℕ) → 0 < length b → without_end b ≡ b → without_end (a ++ b) ≡ a ++ b
end_after a [] there h = absurd (omega arith)
end_after a (y ∷ b) there h = end-after a y b h

abbrev has_key_name : Maybe (List ℕ) → Bool
has_key_name None = true
has_key_name (Some name) = is_type_name name

key_names : (k : Maybe (List ℕ)) (s : Shape) → has_type_names (map k s) ≡ true → (has_key_name k ≡ true) × (has_type_names s ≡ true)
key_names None s e = (refl, e)
key_names (Some name) s e = (first_so (is_type_name name) (has_type_names s) e, second_so (is_type_name name) (has_type_names s) e)

key_bytes : (k : Maybe (List ℕ)) → has_key_name k ≡ true → list_all is_name_byte (key_text k) ≡ true
key_bytes None e = refl
key_bytes (Some name) e = name_bytes name e

-- what stands in the bracket of a map
abbrev in_map : Maybe (List ℕ) → Shape → List ℕ
in_map k s = key_text k ++ codes ", " ++ type_text s

map_closes : (k : Maybe (List ℕ)) (s : Shape) → type_text (map k s) ≡ codes "Map<" ++ (in_map k s ++ 62 ∷ [])
map_closes k s = refl

text_front : (s : Shape) → has_type_names s ≡ true → without_front (type_text s) ≡ type_text s
text_front boolean e = refl
text_front int e = refl
text_front string e = refl
text_front text e = refl
text_front image e = refl
text_front (option s) e = refl
text_front (list s) e = refl
text_front (map k s) e = refl
text_front (named name) e = name_front name (name_bytes name e)

text_end : (s : Shape) → has_type_names s ≡ true → without_end (type_text s) ≡ type_text s
text_end boolean e = refl
text_end int e = refl
text_end string e = refl
text_end text e = refl
text_end image e = refl
text_end (option s) e = bracket_end (codes "Option<" ++ type_text s)
text_end (list s) e = bracket_end (codes "List<" ++ type_text s)
text_end (map k s) e = ap without_end (map_closes k s) ∙ bracket_end (codes "Map<" ++ in_map k s) ∙ sym (map_closes k s)
text_end (named name) e = name_end name (name_bytes name e)

text_there : (s : Shape) → has_type_names s ≡ true → 0 < length (type_text s)
text_there boolean e = omega arith
text_there int e = omega arith
text_there string e = omega arith
text_there text e = omega arith
text_there image e = omega arith
text_there (option s) e = omega arith
text_there (list s) e = omega arith
text_there (map k s) e = omega arith
text_there (named name) e = name_there name e

text_kept : (s : Shape) → has_type_names s ≡ true → without_front (without_end (type_text s)) ≡ type_text s
text_kept s e = ap without_front (text_end s e) ∙ text_front s e

key_front : (key rest : List ℕ) → list_all is_name_byte key ≡ true → without_front (key ++ codes ", " ++ rest) ≡ key ++ codes ", " ++ rest
key_front [] rest all = refl
key_front (x ∷ key) rest all = ap (λ c. if c then without_front (key ++ codes ", " ++ rest) else x ∷ key ++ codes ", " ++ rest) (not_space x (first_so (is_name_byte x) (list_all is_name_byte key) all))

map_end : (k : Maybe (List ℕ)) (s : Shape) → has_type_names s ≡ true → without_end (in_map k s) ≡ in_map k s
map_end k s e = end_after (key_text k ++ codes ", ") (type_text s) (text_there s e) (text_end s e)

map_kept : (k : Maybe (List ℕ)) (s : Shape) → has_key_name k ≡ true → has_type_names s ≡ true → without_front (without_end (in_map k s)) ≡ in_map k s
map_kept k s f e = ap without_front (map_end k s e) ∙ key_front (key_text k) (type_text s) (key_bytes k f)

-- ---- types without a bracket

simple_at : (levels : ℕ) (b : List ℕ) → lacks 60 b ≡ true → type_of levels b ≡ simple_type b
simple_at zero b h = ap (without_bracket b) (no_cut 60 b h)
simple_at (suc levels) b h = ap (with_bracket (type_of levels) b) (no_cut 60 b h)

simple_name : (b : List ℕ) → is_type_name b ≡ true → simple_type b ≡ Some (named b)
simple_name b e =
    let others = none_of (bytes_eq b (codes "Boolean")) (bytes_eq b (codes "Int")) (bytes_eq b (codes "String")) (bytes_eq b (codes "Text")) (bytes_eq b (codes "Image")) (no_simple_word b e) in
    cond-false (bytes_eq b (codes "Boolean")) (Some boolean) _ others.0 ∙ cond-false (bytes_eq b (codes "Int")) (Some int) _ others.1 ∙ cond-false (bytes_eq b (codes "String")) (Some string) _ others.2
    ∙ cond-false (bytes_eq b (codes "Text")) (Some text) _ others.3 ∙ cond-false (bytes_eq b (codes "Image")) (Some image) (named_type b) others.4 ∙ cond-true (is_type_name b) (Some (named b)) None e

-- ---- brackets

closed_end : (b : List ℕ) → closed (b ++ 62 ∷ []) ≡ Some (without_front (without_end b))
closed_end b =
    let whole = length-append b (62 ∷ []) in
    let last : length (b ++ 62 ∷ []) - 1 ≡ length b = omega arith in
    ap (λ n. if slice_index (b ++ 62 ∷ []) n == 62 then Some (without_front (without_end (take n (b ++ 62 ∷ [])))) else None) last
    ∙ ap (λ y. if y == 62 then Some (without_front (without_end (take (length b) (b ++ 62 ∷ [])))) else None) (get_or-append_seam b 62 [] 0)
    ∙ ap (λ u. Some (without_front (without_end u))) (take-append_seam b (62 ∷ []))

bracket_at : (levels : ℕ) (word inside : List ℕ) → lacks 60 word ≡ true → without_end word ≡ word → without_front (without_end inside) ≡ inside → type_of (suc levels) (word ++ 60 ∷ (inside ++ 62 ∷ [])) ≡ bracketed (type_of levels) word inside
bracket_at levels word inside h e f =
    ap (with_bracket (type_of levels) (word ++ 60 ∷ (inside ++ 62 ∷ []))) (cut_before 60 word (inside ++ 62 ∷ []) h)
    ∙ ap (closed_type (type_of levels) (without_end word)) (closed_end inside)
    ∙ ap (λ w. bracketed (type_of levels) w (without_front (without_end inside))) e
    ∙ ap (bracketed (type_of levels) word) f

option_in : (read : List ℕ → Maybe Shape) (b : List ℕ) → bracketed read (codes "Option") b ≡ option_and_then in_option (read b)
unfolding bracketed
option_in read b = refl

list_in : (read : List ℕ → Maybe Shape) (b : List ℕ) → bracketed read (codes "List") b ≡ option_map list (read b)
unfolding bracketed
list_in read b = refl

map_of : (read : List ℕ → Maybe Shape) (b : List ℕ) → bracketed read (codes "Map") b ≡ map_in read b
unfolding bracketed
map_of read b = refl

key_again : (k : Maybe (List ℕ)) → has_key_name k ≡ true → key_in (key_text k) ≡ Some k
unfolding key_in
key_again None e = refl
key_again (Some name) e =
    let others = none_of (bytes_eq name (codes "Boolean")) (bytes_eq name (codes "Int")) (bytes_eq name (codes "String")) (bytes_eq name (codes "Text")) (bytes_eq name (codes "Image")) (no_simple_word name e) in
    cond-false (bytes_eq name (codes "String")) (Some None) _ others.2 ∙ cond-true (is_type_name name) (Some (Some name)) None e

map_again : (read : List ℕ → Maybe Shape) (k : Maybe (List ℕ)) (s : Shape) → has_key_name k ≡ true → without_front (type_text s) ≡ type_text s → read (type_text s) ≡ Some s → map_in read (in_map k s) ≡ Some (map k s)
unfolding map_in
map_again read k s f front again =
    let bytes = key_bytes k f in
    ap (map_in read) (append_assoc (key_text k) (codes ", ") (type_text s))
    ∙ ap (option_and_then (λ (p : List ℕ × List ℕ). keyed (key_in (without_end p.0)) (read (without_front p.1)))) (cut_before 44 (key_text k) (32 ∷ type_text s) (name_lacks 44 (key_text k) refl bytes))
    ∙ ap (λ b. keyed (key_in b) (read (without_front (type_text s)))) (name_end (key_text k) bytes)
    ∙ ap (λ o. keyed o (read (without_front (type_text s)))) (key_again k f)
    ∙ ap (λ b. keyed (Some k) (read b)) front
    ∙ ap (keyed (Some k)) again

within_option : (s : Shape) → has_single_options (option s) ≡ true → in_option s ≡ Some (option s)
within_option s o = cond-false (is_option s) None (Some (option s)) (not-true (is_option s) (first_so (not (is_option s)) (has_single_options s) o))

pub types_again : (s : Shape) (levels : ℕ) → height s ≤ levels → has_single_options s ≡ true → has_type_names s ≡ true → type_of levels (type_text s) ≡ Some s
types_again boolean levels h o e = simple_at levels (codes "Boolean") refl
types_again int levels h o e = simple_at levels (codes "Int") refl
types_again string levels h o e = simple_at levels (codes "String") refl
types_again text levels h o e = simple_at levels (codes "Text") refl
types_again image levels h o e = simple_at levels (codes "Image") refl
types_again (option s) zero h o e = absurd (omega arith)
types_again (option s) (suc levels) h o e =
    bracket_at levels (codes "Option") (type_text s) refl refl (text_kept s e) ∙ option_in (type_of levels) (type_text s)
    ∙ ap (option_and_then in_option) (types_again s levels (omega arith) (second_so (not (is_option s)) (has_single_options s) o) e) ∙ within_option s o
types_again (list s) zero h o e = absurd (omega arith)
types_again (list s) (suc levels) h o e =
    bracket_at levels (codes "List") (type_text s) refl refl (text_kept s e) ∙ list_in (type_of levels) (type_text s) ∙ ap (option_map list) (types_again s levels (omega arith) o e)
types_again (map k s) zero h o e = absurd (omega arith)
types_again (map k s) (suc levels) h o e =
    let names = key_names k s e in
    ap (type_of (suc levels)) (map_closes k s) ∙ bracket_at levels (codes "Map") (in_map k s) refl refl (map_kept k s names.0 names.1) ∙ map_of (type_of levels) (in_map k s)
    ∙ map_again (type_of levels) k s names.0 (text_front s names.1) (types_again s levels (omega arith) o names.1)
types_again (named name) levels h o e = simple_at levels name (name_lacks 60 name refl (name_bytes name e)) ∙ simple_name name e

pub spelled_again : (s : Shape) → IsSpelledType s → spelled (type_text s) ≡ Some s
spelled_again s of_text = types_again s 8 of_text.brackets of_text.options of_text.names
