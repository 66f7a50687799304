-- A type that a text spells has names that a type may have, and at most 8 brackets.
use Rattle.std.proofs.Common.{◌≡◌, ◌≤◌, ℕ, zero, suc, Bool, true, false, List, Option as Maybe, Some, None, refl, subst, arith}
use Rattle.std.specs.Prelude.{IsTrue, option_map, option_and_then, bytes_eq, codes, if◌then◌else◌}
use Rattle.std.proofs.lemmas.Bool.{and_from}
use Rattle.fml_types.specs.Shape.{Shape, boolean, int, string, text, image, option, list, map, named, height}
use Rattle.fml_types.specs.TypeTexts.{is_type_name, named_type, simple_type, key_in, cut, closed, is_option, in_option, keyed, map_in, bracketed, closed_type, with_bracket, without_bracket, type_of, spelled, without_end, without_front}
use Rattle.fml_imports.specs.WellFormed.{has_type_names, IsSpelledType}
use Rattle.fml_imports.proofs.Singles.{spelled_single}

-- the type, where there is one, has such names and so many brackets
Spells : ℕ → Maybe Shape → Type 0
Spells n o = (s : Shape) → o ≡ Some s → IsTrue (has_type_names s) × (height s ≤ n)

none_spells : (n : ℕ) → Spells n None
unfolding Spells
none_spells n s h = absurd cc

some_spells : (n : ℕ) (s : Shape) → IsTrue (has_type_names s) → height s ≤ n → Spells n (Some s)
unfolding Spells
some_spells n s names levels t h = let same : s ≡ t = cc in subst (λ u. IsTrue (has_type_names u) × (height u ≤ n)) same (names, levels)

choose : (n : ℕ) (c : Bool) (a b : Maybe Shape) → Spells n a → Spells n b → Spells n (if c then a else b)
choose n true a b first second = first
choose n false a b first second = second

named-spells : (n : ℕ) (b : List ℕ) (c : Bool) → is_type_name b ≡ c → Spells n (if c then Some (named b) else None)
named-spells n b true e = some_spells n (named b) e (omega arith)
named-spells n b false e = none_spells n

simple_spells : (n : ℕ) (b : List ℕ) → Spells n (simple_type b)
simple_spells n b =
    choose n (bytes_eq b (codes "Boolean")) (Some boolean) _ (some_spells n boolean refl (omega arith)) (
    choose n (bytes_eq b (codes "Int")) (Some int) _ (some_spells n int refl (omega arith)) (
    choose n (bytes_eq b (codes "String")) (Some string) _ (some_spells n string refl (omega arith)) (
    choose n (bytes_eq b (codes "Text")) (Some text) _ (some_spells n text refl (omega arith)) (
    choose n (bytes_eq b (codes "Image")) (Some image) (named_type b) (some_spells n image refl (omega arith)) (named-spells n b (is_type_name b) refl)))))

option_spells : (n : ℕ) (o : Maybe Shape) → Spells n o → Spells (suc n) (option_and_then in_option o)
unfolding Spells
option_spells n None spells = none_spells (suc n)
option_spells n (Some s) spells = let inner = spells s refl in choose (suc n) (is_option s) None (Some (option s)) (none_spells (suc n)) (some_spells (suc n) (option s) inner.0 (let levels : height s ≤ n = inner.1 in omega arith))

list_spells : (n : ℕ) (o : Maybe Shape) → Spells n o → Spells (suc n) (option_map list o)
unfolding Spells
list_spells n None spells = none_spells (suc n)
list_spells n (Some s) spells = let inner = spells s refl in some_spells (suc n) (list s) inner.0 (let levels : height s ≤ n = inner.1 in omega arith)

abbrev has_key_name : Maybe (List ℕ) → Bool
has_key_name None = true
has_key_name (Some name) = is_type_name name

map_names : (k : Maybe (List ℕ)) (s : Shape) → has_key_name k ≡ true → has_type_names s ≡ true → has_type_names (map k s) ≡ true
map_names None s key inner = inner
map_names (Some name) s key inner = and_from (is_type_name name) (has_type_names s) key inner

key-spells : (b : List ℕ) (c d : Bool) (k : Maybe (List ℕ)) → is_type_name b ≡ d → ◌≡◌ {A = Maybe (Maybe (List ℕ))} (if c then Some None else if d then Some (Some b) else None) (Some k) → has_key_name k ≡ true
key-spells b true d k e h = let same : ◌≡◌ {A = Maybe (List ℕ)} None k = cc in subst (λ l. has_key_name l ≡ true) same refl
key-spells b false true k e h = let same : Some b ≡ k = cc in subst (λ l. has_key_name l ≡ true) same e
key-spells b false false k e h = absurd cc

key_spells : (b : List ℕ) (k : Maybe (List ℕ)) → key_in b ≡ Some k → has_key_name k ≡ true
unfolding key_in
key_spells b k h = key-spells b (bytes_eq b (codes "String")) (is_type_name b) k refl h

keyed_spells : (n : ℕ) (k : Maybe (Maybe (List ℕ))) (o : Maybe Shape) → ((l : Maybe (List ℕ)) → k ≡ Some l → has_key_name l ≡ true) → Spells n o → Spells (suc n) (keyed k o)
unfolding Spells
keyed_spells n None o key spells = none_spells (suc n)
keyed_spells n (Some k) None key spells = none_spells (suc n)
keyed_spells n (Some k) (Some s) key spells = let inner = spells s refl in some_spells (suc n) (map k s) (map_names k s (key k refl) inner.0) (let levels : height s ≤ n = inner.1 in omega arith)

map-spells : (n : ℕ) (read : List ℕ → Maybe Shape) → ((b : List ℕ) → Spells n (read b)) → (o : Maybe (List ℕ × List ℕ)) → Spells (suc n) (option_and_then (λ p. keyed (key_in (without_end p.0)) (read (without_front p.1))) o)
map-spells n read spells None = none_spells (suc n)
map-spells n read spells (Some p) = keyed_spells n (key_in (without_end p.0)) (read (without_front p.1)) (key_spells (without_end p.0)) (spells (without_front p.1))

map_spells : (n : ℕ) (read : List ℕ → Maybe Shape) → ((b : List ℕ) → Spells n (read b)) → (inside : List ℕ) → Spells (suc n) (map_in read inside)
unfolding map_in
map_spells n read spells inside = map-spells n read spells (cut 44 inside)

bracketed_spells : (n : ℕ) (read : List ℕ → Maybe Shape) → ((b : List ℕ) → Spells n (read b)) → (word inside : List ℕ) → Spells (suc n) (bracketed read word inside)
unfolding bracketed
bracketed_spells n read spells word inside =
    choose (suc n) (bytes_eq word (codes "Option")) (option_and_then in_option (read inside)) _ (option_spells n (read inside) (spells inside)) (
    choose (suc n) (bytes_eq word (codes "List")) (option_map list (read inside)) _ (list_spells n (read inside) (spells inside)) (
    choose (suc n) (bytes_eq word (codes "Map")) (map_in read inside) None (map_spells n read spells inside) (none_spells (suc n))))

closed_spells : (n : ℕ) (read : List ℕ → Maybe Shape) → ((b : List ℕ) → Spells n (read b)) → (word : List ℕ) (o : Maybe (List ℕ)) → Spells (suc n) (closed_type read word o)
closed_spells n read spells word None = none_spells (suc n)
closed_spells n read spells word (Some inside) = bracketed_spells n read spells word inside

with_spells : (n : ℕ) (read : List ℕ → Maybe Shape) → ((b : List ℕ) → Spells n (read b)) → (b : List ℕ) (o : Maybe (List ℕ × List ℕ)) → Spells (suc n) (with_bracket read b o)
with_spells n read spells b None = simple_spells (suc n) b
with_spells n read spells b (Some p) = closed_spells n read spells (without_end p.0) (closed p.1)

without_spells : (b : List ℕ) (o : Maybe (List ℕ × List ℕ)) → Spells 0 (without_bracket b o)
without_spells b None = simple_spells 0 b
without_spells b (Some p) = none_spells 0

types_spell : (levels : ℕ) (b : List ℕ) → Spells levels (type_of levels b)
types_spell zero b = without_spells b (cut 60 b)
types_spell (suc levels) b = with_spells levels (type_of levels) (types_spell levels) b (cut 60 b)

names_and_brackets : (b : List ℕ) (s : Shape) → spelled b ≡ Some s → IsTrue (has_type_names s) × (height s ≤ 8)
unfolding Spells
names_and_brackets b = types_spell 8 b

pub spelled_type : (b : List ℕ) (s : Shape) → spelled b ≡ Some s → IsSpelledType s
spelled_type b s h = let seen = names_and_brackets b s h in record { names = seen.0; options = spelled_single b s h; brackets = seen.1 }
