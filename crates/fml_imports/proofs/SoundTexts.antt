-- The texts of a manifest are UTF-8.
use Rattle.std.proofs.Common.{◌≡◌, ℕ, zero, suc, ◌+◌, ◌<◌, ◌≤◌, Bool, true, false, List, [], ◌∷◌, ◌++◌, length, take, drop, get_or, Option as Maybe, Some, None, IsUtf8, length-drop, refl, sym, subst, arith}
use Rattle.std.proofs.lemmas.Bool.Decides.{Decides-eqb, nat_tests}
use Rattle.std.proofs.lemmas.List.{append-nil}
use Rattle.std.proofs.lemmas.List.Quantifiers.{position-Some}
use Rattle.std.proofs.lemmas.Map.Views.{All-insert_key}
use Rattle.std.proofs.lemmas.Str.{IsUtf8-append, IsUtf8-from_ascii, IsUtf8-take, IsUtf8-drop, IsCharBoundary-before_ascii, IsCharBoundary-after_ascii}
use Rattle.std.specs.BTreeSet.{insert_key}
use Rattle.std.specs.Cmp.{first_so, second_so}
use Rattle.std.specs.Cmp.Lexicographic.{slice_cmp, bytes_decides}
use Rattle.std.specs.List.{list_all, slice_split}
use Rattle.std.specs.Ordering.{nat_cmp}
use Rattle.std.specs.Prelude.{◌||◌, All, IsTrue, bytes_eq, codes, nat_lt, position}
use Rattle.std.specs.Str.{IsAscii}
use Rattle.plain_text.proofs.Splitting.{cut_at, uncut}
use Rattle.fml_types.proofs.Ascii.{IsUtf8-name}
use Rattle.fml_types.specs.Shape.{Shape, boolean, int, string, text, image, option, list, map, named}
use Rattle.fml_types.specs.TypeTexts.{is_type_name}
use Rattle.fml_reader.proofs.Pieces.{trimmed, trimmed_utf8}
use Rattle.fml_reader.specs.Features.{is_comma, kept_name, kept_names, names_in, in_order}
use Rattle.fml_imports.specs.Channels.{is_among}
use Rattle.fml_imports.specs.Single.{key_text, type_text}
use Rattle.fml_imports.specs.WellFormed.{has_type_names}
use Rattle.fml_imports.proofs.Alls.{all_nil, all_cons, all_head, all_tail, all_append}

-- ---- words

is_ascii : ℕ → Bool
is_ascii x = nat_lt x 128

below_128 : (x : ℕ) → is_ascii x ≡ true → x < 128
unfolding is_ascii
below_128 x e = grind (arith, nat_tests)

all_ascii : (b : List ℕ) → list_all is_ascii b ≡ true → IsAscii b
all_ascii [] e i = omega arith
all_ascii (x ∷ b) e zero = below_128 x (first_so (is_ascii x) (list_all is_ascii b) e)
all_ascii (x ∷ b) e (suc i) = all_ascii b (second_so (is_ascii x) (list_all is_ascii b) e) i

word_utf8 : (b : List ℕ) → list_all (λ (x : ℕ). nat_lt x 128) b ≡ true → IsUtf8 b
unfolding is_ascii
word_utf8 b e = IsUtf8-from_ascii b (all_ascii b e)

pub type_word : IsUtf8 (codes "type")
type_word = word_utf8 (codes "type") refl

pub default_word : IsUtf8 (codes "default")
default_word = word_utf8 (codes "default") refl

pub variants_word : IsUtf8 (codes "variants")
variants_word = word_utf8 (codes "variants") refl

pub fields_word : IsUtf8 (codes "fields")
fields_word = word_utf8 (codes "fields") refl

pub channels_word : IsUtf8 (codes "channels")
channels_word = word_utf8 (codes "channels") refl

pub value_word : IsUtf8 (codes "value")
value_word = word_utf8 (codes "value") refl

pub coenrollment_word : IsUtf8 (codes "allow-coenrollment")
coenrollment_word = word_utf8 (codes "allow-coenrollment") refl

pub defaults_word : IsUtf8 (codes "defaults")
defaults_word = word_utf8 (codes "defaults") refl

pub variables_word : IsUtf8 (codes "variables")
variables_word = word_utf8 (codes "variables") refl

pub enums_word : IsUtf8 (codes "enums")
enums_word = word_utf8 (codes "enums") refl

pub features_word : IsUtf8 (codes "features")
features_word = word_utf8 (codes "features") refl

pub objects_word : IsUtf8 (codes "objects")
objects_word = word_utf8 (codes "objects") refl

-- ---- the text of a type

bracketed : (word inner : List ℕ) → IsUtf8 word → IsUtf8 inner → IsUtf8 (word ++ inner ++ codes ">")
bracketed word inner before inside = IsUtf8-append (word ++ inner) (codes ">") (IsUtf8-append word inner before inside) (word_utf8 (codes ">") refl)

key_utf8 : (k : Maybe (List ℕ)) (s : Shape) → IsTrue (has_type_names (map k s)) → IsUtf8 (key_text k) × IsTrue (has_type_names s)
key_utf8 None s h = (word_utf8 (codes "String") refl, h)
key_utf8 (Some name) s h = (IsUtf8-name name (first_so (is_type_name name) (has_type_names s) h), second_so (is_type_name name) (has_type_names s) h)

pub type_utf8 : (s : Shape) → IsTrue (has_type_names s) → IsUtf8 (type_text s)
type_utf8 boolean h = word_utf8 (codes "Boolean") refl
type_utf8 int h = word_utf8 (codes "Int") refl
type_utf8 string h = word_utf8 (codes "String") refl
type_utf8 text h = word_utf8 (codes "Text") refl
type_utf8 image h = word_utf8 (codes "Image") refl
type_utf8 (option s) h = bracketed (codes "Option<") (type_text s) (word_utf8 (codes "Option<") refl) (type_utf8 s h)
type_utf8 (list s) h = bracketed (codes "List<") (type_text s) (word_utf8 (codes "List<") refl) (type_utf8 s h)
type_utf8 (map k s) h =
    let parts = key_utf8 k s h in
    let front = IsUtf8-append (codes "Map<" ++ key_text k) (codes ", ") (IsUtf8-append (codes "Map<") (key_text k) (word_utf8 (codes "Map<") refl) parts.0) (word_utf8 (codes ", ") refl) in
    bracketed (codes "Map<" ++ key_text k ++ codes ", ") (type_text s) front (type_utf8 s parts.1)
type_utf8 (named name) h = IsUtf8-name name h

-- ---- names of channels

kept_utf8 : (name : List ℕ) → IsUtf8 name → All IsUtf8 (kept_name name)
kept_utf8 [] utf8 = all_nil IsUtf8
kept_utf8 (x ∷ s) utf8 = all_cons IsUtf8 (x ∷ s) [] utf8 (all_nil IsUtf8)

one_utf8 : (piece : List ℕ) → IsUtf8 piece → All IsUtf8 (kept_name (trimmed piece))
one_utf8 piece utf8 = kept_utf8 (trimmed piece) (trimmed_utf8 piece utf8)

pieces_utf8 : (n : ℕ) (s : List ℕ) (at : Maybe ℕ) → length s ≤ n → IsUtf8 s → position is_comma s ≡ at → All IsUtf8 (kept_names (slice_split is_comma s))
pieces_utf8 n s None h utf8 is =
    subst (λ (pieces : List (List ℕ)). All IsUtf8 (kept_names pieces)) (sym (uncut is_comma s is)) (subst (λ (names : List (List ℕ)). All IsUtf8 names) (sym (append-nil (kept_name (trimmed s)))) (one_utf8 s utf8))
pieces_utf8 zero s (Some k) h utf8 is = let at = position-Some is_comma s k 0 is in let within : k < length s = at.0 in absurd (omega (arith, within, h))
pieces_utf8 (suc n) s (Some k) h utf8 is =
    let at = position-Some is_comma s k 0 is in
    let code : get_or s k 0 ≡ 44 = (Decides-eqb (get_or s k 0) 44).0 at.1 in
    let cut = cut_at is_comma s k is in
    let front : IsUtf8 (take k s) = IsUtf8-take s k utf8 (IsCharBoundary-before_ascii s k at.0 (omega (arith, code))) in
    let back : IsUtf8 (drop (k + 1) s) = IsUtf8-drop s (k + 1) utf8 (IsCharBoundary-after_ascii s k utf8 at.0 (omega (arith, code))) in
    let short : length (drop (k + 1) s) ≤ n = let counted = length-drop (k + 1) s in omega (arith, counted, h) in
    let rest = pieces_utf8 n (drop (k + 1) s) (position is_comma (drop (k + 1) s)) short back refl in
    subst (λ (pieces : List (List ℕ)). All IsUtf8 (kept_names pieces)) (sym cut.1) (all_append IsUtf8 (kept_name (trimmed (take k s))) (kept_names (slice_split is_comma (drop (k + 1) s))) (one_utf8 (take k s) front) rest)

pub names_utf8 : (s : List ℕ) → IsUtf8 s → All IsUtf8 (names_in s)
names_utf8 s utf8 = let few : length s ≤ length s = omega arith in pieces_utf8 (length s) s (position is_comma s) few utf8 refl

order_utf8 : (names held : List (List ℕ)) → All IsUtf8 held → All IsUtf8 names → All IsUtf8 (in_order held names)
order_utf8 [] held before all = before
order_utf8 (n ∷ ns) held before all = order_utf8 ns (insert_key (slice_cmp nat_cmp) held n) (All-insert_key (slice_cmp nat_cmp) n IsUtf8 held before (all_head IsUtf8 n ns all)) (all_tail IsUtf8 n ns all)

pub ordered_utf8 : (names : List (List ℕ)) → All IsUtf8 names → All IsUtf8 (in_order [] names)
ordered_utf8 names all = order_utf8 names [] (all_nil IsUtf8) all

-- a name that is among names is one of them
pub among_all : (P : List ℕ → Type 0) (name : List ℕ) (names : List (List ℕ)) → is_among name names ≡ true → All P names → P name
among_all P name [] among all = absurd cc
among_all P name (n ∷ ns) among all =
    elim (bytes_eq n name) as (λ b. bytes_eq n name ≡ b → (b || is_among name ns) ≡ true → P name) [
      | true ↦ λ same there. subst P ((bytes_decides n name).0 same) (all_head P n ns all)
      | false ↦ λ other there. among_all P name ns there (all_tail P n ns all)
    ] refl among
