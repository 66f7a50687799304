-- How long texts are, part by part.
use Rattle.std.proofs.Common.{Bool, true, ◌&&◌, ◌==◌, ◌≡◌, ◌+◌, ◌<◌, ◌≤◌, ℕ, suc, List, [], ◌∷◌, ◌++◌, map, length, get_or, take, refl, sym, ap, ◌∙◌, arith, length-append}
use Rattle.std.specs.Fmt.{digits}
use Rattle.std.specs.List.{sum_by}
use Rattle.std.proofs.lemmas.List.{take_more}
use Rattle.std.proofs.lemmas.List.Concat.{flat_map-append}
use Rattle.std.proofs.lemmas.List.Sums.{sum_by-cons, sum_by_more, sum_by-take-le}
use Rattle.std.proofs.lemmas.Bool.{or_parts, not-true, and_parts, OnTrue_at, OnTrue_from, eqb-false, ltb-false}
use Rattle.std.specs.Bool.{OnTrue}
use Rattle.json.specs.Print.{escape, escape_byte, quoted}
use Rattle.json.specs.Run.{is_stop, is_plain}
use Rattle.json.proofs.Printed.Strings.{escape_byte_plain}
use Rattle.serde_json.specs.Written.{items_text, members_text}
use Rattle.json_tree.specs.Json.{Json, odd, text, list, object, items_of, members_of}
use Rattle.json_tree.specs.Tree.{json_of, member_of}
use Rattle.json_tree.specs.Bytes.{text_of, to_items, to_members}
use Rattle.json_tree.specs.declared.tree.Tree.{Tree}

-- ---- texts

pub length-quoted : (s : List ℕ) → length (quoted s) ≡ 2 + length (escape s)
length-quoted s = omega (arith, length-append (escape s) (34 ∷ []))

pub escape_more : (s : List ℕ) (i d : ℕ) → i < length s → length (escape (take (i + 1) s)) ≡ length (escape (take i s)) + length (escape_byte (get_or s i d))
escape_more s i d within =
    let x = get_or s i d in
    let last : length (escape (x ∷ [])) ≡ length (escape_byte x) = omega (arith, length-append (escape_byte x) []) in
    let both = length-append (escape (take i s)) (escape (x ∷ [])) in
    ap (λ l. length (escape l)) (take_more s i d within) ∙ ap length (flat_map-append escape_byte (take i s) (x ∷ [])) ∙ omega (arith, both, last)

pub plain_one : (x : ℕ) → is_plain x ≡ true → length (escape_byte x) ≡ 1
plain_one x plain =
    let none = or_parts _ _ (not-true (is_stop x) plain) in
    let tests = or_parts (x == 34) _ none.0 in
    ap length (escape_byte_plain x (eqb-false x 34 tests.0) (eqb-false x 92 tests.1) (ltb-false x 32 none.1))

-- one more plain byte
pub plain_more : (before here : Bool) (s : List ℕ) (i : ℕ) → i < length s → here ≡ is_plain (get_or s i 0)
    → OnTrue before (length (escape (take i s)) ≡ i) → OnTrue (before && here) (length (escape (take (i + 1) s)) ≡ i + 1)
plain_more before here s i within is plain = OnTrue_from (before && here) _ (λ both.
    let parts = and_parts before here both in
    let one = plain_one (get_or s i 0) (sym is ∙ parts.1) in
    omega (arith, one, OnTrue_at parts.0 plain, escape_more s i 0 within))

-- ---- lists and objects

sum_by-map : {A B : Type 0} (f : B → ℕ) (g : A → B) (xs : List A) → sum_by f (map g xs) ≡ sum_by (λ x. f (g x)) xs
sum_by-map f g [] = refl
sum_by-map f g (x ∷ xs) = sum_by-cons f (g x) (map g xs) ∙ ap (λ n. f (g x) + n) (sum_by-map f g xs) ∙ sym (sum_by-cons (λ y. f (g y)) x xs)

-- an item's text, and what stands before it
abbrev pub item_length : Json → ℕ
item_length x = 1 + length (text_of x)

-- the same of a member, with its key and colon
abbrev pub member_length : List ℕ × Json → ℕ
member_length m = 2 + length (text_of (text m.0)) + length (text_of m.1)

items_after : (xs : List Json) → length (items_text true (to_items (items_of xs))) ≡ 1 + sum_by item_length xs
items_after [] = refl
items_after (x ∷ xs) = omega (arith, length-append (text_of x) (items_text true (to_items (items_of xs))), items_after xs, sum_by-cons item_length x xs)

pub length-list : (xs : List Json) → 0 < length xs → length (text_of (list (items_of xs))) ≡ 1 + sum_by item_length xs
length-list [] some = absurd (omega (arith, some))
length-list (x ∷ xs) some = omega (arith, length-append (text_of x) (items_text true (to_items (items_of xs))), items_after xs, sum_by-cons item_length x xs)

members_after : (ms : List (List ℕ × Json)) → length (members_text true (to_members (members_of ms))) ≡ 1 + sum_by member_length ms
members_after [] = refl
members_after (m ∷ ms) =
    let rest = members_text true (to_members (members_of ms)) in
    omega (arith, length-append (quoted m.0) (58 ∷ (text_of m.1 ++ rest)), length-append (text_of m.1) rest, members_after ms, sum_by-cons member_length m ms)

pub length-object : (ms : List (List ℕ × Json)) → 0 < length ms → length (text_of (object (members_of ms))) ≡ 1 + sum_by member_length ms
length-object [] some = absurd (omega (arith, some))
length-object (m ∷ ms) some =
    let rest = members_text true (to_members (members_of ms)) in
    omega (arith, length-append (quoted m.0) (58 ∷ (text_of m.1 ++ rest)), length-append (text_of m.1) rest, members_after ms, sum_by-cons member_length m ms)

-- ---- the same of what has a value

abbrev pub tree_item : Tree → ℕ
tree_item t = item_length (json_of t)

abbrev pub tree_member : List ℕ × Tree → ℕ
tree_member m = member_length (member_of m)

length-map : {A B : Type 0} (f : A → B) (xs : List A) → length (map f xs) ≡ length xs
length-map f [] = refl
length-map f (x ∷ xs) = ap suc (length-map f xs)

pub length-items : {A : Type 0} (json : A → Json) (xs : List A) → 0 < length xs → length (text_of (list (items_of (map json xs)))) ≡ 1 + sum_by (λ x. item_length (json x)) xs
length-items json xs some = length-list (map json xs) (omega (arith, some, length-map json xs)) ∙ ap (λ n. 1 + n) (sum_by-map item_length json xs)

pub length-pairs : (ms : List (List ℕ × Tree)) → 0 < length ms → length (text_of (object (members_of (map member_of ms)))) ≡ 1 + sum_by tree_member ms
length-pairs ms some = length-object (map member_of ms) (omega (arith, some, length-map member_of ms)) ∙ ap (λ n. 1 + n) (sum_by-map member_length member_of ms)

-- ---- one part of a sum

pub sum_more : {A : Type 0} (f : A → ℕ) (xs : List A) (i : ℕ) (x : A) → i < length xs → x ≡ get_or xs i x → sum_by f (take (i + 1) xs) ≡ sum_by f (take i xs) + f x
sum_more f xs i x within here = sum_by_more f xs i x within ∙ ap (λ y. sum_by f (take i xs) + f y) (sym here)

pub sum_within : {A : Type 0} (f : A → ℕ) (xs : List A) (i : ℕ) (x : A) → i < length xs → x ≡ get_or xs i x → sum_by f (take i xs) + f x ≤ sum_by f xs
sum_within f xs i x within here = omega (arith, sum_more f xs i x within here, sum_by-take-le f xs (i + 1))

-- ---- the number that stands for each that is no `i64`

pub length-odd : length (text_of odd) ≡ 20
unfolding digits
length-odd = refl
