-- The tokens of lists and objects, written one part after another.
use Rattle.std.proofs.Common.{◌≡◌, ◌<◌, ◌≤◌, ◌+◌, ℕ, pos, negsuc, List, [], ◌∷◌, ◌++◌, map, length, get_or, drop, refl, sym, ap, ◌∙◌, append_assoc}
use Rattle.std.specs.Prelude.{ℤ, Ok}
use Rattle.std.specs.declared.alloc.AllocError.{AllocError}
use Rattle.std.specs.Fmt.{signed_decimal}
use Rattle.std.proofs.lemmas.List.{drop_more, drop_all}
use Rattle.json.specs.Token.{Token, begin_object, end_object, begin_array, end_array, key, string}
use Rattle.json.specs.Written.{Written, Writes}
use Rattle.json.specs.Tree.{items_tokens, members_tokens}
use Rattle.json.specs.Print.{print}
use Rattle.serde_json.specs.Find.{of_integer}
use Rattle.serde_json.specs.Written.{number_text, items_outline, members_outline}
use Rattle.serde_json.proofs.Texts.{print-outline}
use Rattle.json_tree.specs.Json.{Json, items_of, members_of}
use Rattle.json_tree.specs.Tree.{json_of, member_of}
use Rattle.json_tree.specs.Bytes.{text_of, to_data, to_items, to_members}
use Rattle.json_tree.specs.declared.tree.Tree.{Tree}
use Rattle.json_tree.specs.Tokens.{tokens_of}

-- what is printed of a value's tokens is its text
pub printed_tokens : (x : Json) → print (tokens_of x) ≡ text_of x
printed_tokens x = print-outline (to_data x)

-- a whole number is written as its digits, with a sign below 0
pub whole_text : (n : ℤ) → signed_decimal n ≡ number_text (of_integer n)
whole_text (pos n) = refl
whole_text (negsuc n) = refl

-- one part more, and all that follows it
pub part_then : (old part rest : List Token) {new all : List Token} → new ≡ old ++ part → all ≡ new ++ rest → all ≡ old ++ (part ++ rest)
part_then old part rest {new} {all} part_is rest_is = rest_is ∙ ap (λ ts. ts ++ rest) part_is ∙ append_assoc old part rest

-- the same of a token
pub token_then : {old new : Written} {t : Token} (rest : List Token) {all : List Token} → Writes {E = AllocError} (Ok tt) old new t → all ≡ new.tokens ++ rest → all ≡ old.tokens ++ t ∷ rest
token_then {old} {new} {t} rest {all} writes rest_is = part_then old.tokens (t ∷ []) rest writes.ok rest_is

-- the same of a text that is another
pub string_then : {old new : Written} {s t : List ℕ} (rest : List Token) {all : List Token} → Writes {E = AllocError} (Ok tt) old new (string s) → s ≡ t → all ≡ new.tokens ++ rest → all ≡ old.tokens ++ string t ∷ rest
string_then {old} {new} {s} {t} rest {all} writes same rest_is = token_then rest writes rest_is ∙ ap (λ u. old.tokens ++ string u ∷ rest) same

-- ---- one item or one member more

-- the tokens of the items, and the bracket behind them
abbrev pub items_left : {A : Type 0} → (A → Json) → List A → List Token
items_left json xs = items_tokens (items_outline (to_items (items_of (map json xs))))

abbrev pub members_left : List (List ℕ × Tree) → List Token
members_left ms = members_tokens (members_outline (to_members (members_of (map member_of ms))))

pub item_written : {A : Type 0} (json : A → Json) (xs : List A) (i : ℕ) (x : A) (old new all : List Token) → i < length xs → x ≡ get_or xs i x
    → new ≡ old ++ tokens_of (json x) → old ++ items_left json (drop i xs) ≡ all → new ++ items_left json (drop (i + 1) xs) ≡ all
item_written json xs i x old new all within is more before =
    let rest = items_left json (drop (i + 1) xs) in
    let here : drop i xs ≡ x ∷ drop (i + 1) xs = drop_more xs i x within ∙ ap (λ y. y ∷ drop (i + 1) xs) (sym is) in
    ap (λ ts. ts ++ rest) more ∙ append_assoc old (tokens_of (json x)) rest ∙ sym (ap (λ ys. old ++ items_left json ys) here) ∙ before

pub member_written : (ms : List (List ℕ × Tree)) (i : ℕ) (m : List ℕ × Tree) (old named new all : List Token) → i < length ms → m ≡ get_or ms i m
    → named ≡ old ++ key m.0 ∷ [] → new ≡ named ++ tokens_of (json_of m.1) → old ++ members_left (drop i ms) ≡ all → new ++ members_left (drop (i + 1) ms) ≡ all
member_written ms i m old named new all within is name more before =
    let rest = members_left (drop (i + 1) ms) in
    let here : drop i ms ≡ m ∷ drop (i + 1) ms = drop_more ms i m within ∙ ap (λ n. n ∷ drop (i + 1) ms) (sym is) in
    let value = tokens_of (json_of m.1) in
    ap (λ ts. ts ++ rest) more ∙ append_assoc named value rest ∙ ap (λ ts. ts ++ (value ++ rest)) name ∙ append_assoc old (key m.0 ∷ []) (value ++ rest)
    ∙ sym (ap (λ ns. old ++ members_left ns) here) ∙ before

-- ---- all items or all members, between their brackets

pub items_written : {A : Type 0} (json : A → Json) (xs : List A) (i : ℕ) (old opened now new all : List Token) → length xs ≤ i
    → opened ≡ old ++ begin_array ∷ [] → now ++ items_left json (drop i xs) ≡ opened ++ items_left json xs → new ≡ now ++ end_array ∷ []
    → items_left json xs ≡ all → new ≡ old ++ begin_array ∷ all
items_written json xs i old opened now new all past open_is among close_is same =
    let none = ap (λ ys. now ++ items_left json ys) (drop_all i xs past) in
    part_then old (begin_array ∷ []) all open_is (close_is ∙ sym none ∙ among ∙ ap (λ ts. opened ++ ts) same)

pub members_written : (ms : List (List ℕ × Tree)) (i : ℕ) (old opened now new all : List Token) → length ms ≤ i
    → opened ≡ old ++ begin_object ∷ [] → now ++ members_left (drop i ms) ≡ opened ++ members_left ms → new ≡ now ++ end_object ∷ []
    → members_left ms ≡ all → new ≡ old ++ begin_object ∷ all
members_written ms i old opened now new all past open_is among close_is same =
    let none = ap (λ ns. now ++ members_left ns) (drop_all i ms past) in
    part_then old (begin_object ∷ []) all open_is (close_is ∙ sym none ∙ among ∙ ap (λ ts. opened ++ ts) same)
