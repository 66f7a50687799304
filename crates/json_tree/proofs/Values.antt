-- The values of `serde_json` that are read become sound ones.
use Rattle.std.proofs.Common.{◌≡◌, ◌≤◌, ℕ, zero, suc, ◌^◌, ◌&&◌, Bool, true, false, pos, nat_lt, nat_le, List, drop, slice_index, ◌==◌, Option, Some, None, IsUtf8, Ordering, Less, Equal, Greater, refl, ap, ◌∙◌, arith, ltb-true, leb-true}
use Rattle.std.proofs.lemmas.Bool.{and_parts}
use Rattle.std.proofs.lemmas.Cmp.{nat_list_cmp_total}
use Rattle.std.specs.Prelude.{IfSome, option_map, option_and_then, if◌then◌else◌}
use Rattle.std.specs.Cmp.Lexicographic.{slice_cmp}
use Rattle.std.specs.Ordering.{nat_cmp, match_ordering, ordering_reverse}
use Rattle.std.specs.Float.{binary64, float_is_finite}
use Rattle.fast_float.specs.Text.{minus, Parts, scan, digits_of, nearest, with_sign}
use Rattle.json.specs.Json as json
use Rattle.serde_json.specs.Data as serde
use Rattle.serde_json.specs.Data.{Num, unsigned, negative, float, Data, put}
use Rattle.serde_json.specs.Find.{as_i64}
use Rattle.serde_json.specs.Read.{is_integer, float_of, number_from, number_of, of_json, of_items as of_json_items, of_members as of_json_members}
use Rattle.json_tree.specs.Json.{IsBelow, IsSound, AreSoundItems, AreSoundMembers}
use Rattle.json_tree.specs.Bytes.{of_whole, of_data, of_items, of_members}
use Rattle.json_tree.proofs.Grammar.{HasTexts, ItemsHaveTexts, MembersHaveTexts}

-- ---- numbers

-- the number becomes a sound value
abbrev IsNumber : Num → Type 0
IsNumber n = IsSound (of_whole (as_i64 n))

unsigned_at : (n : ℕ) (small : Bool) → nat_lt n (2 ^ 63) ≡ small → IsSound (of_whole (if small then Some (pos n) else None))
unsigned_at n true e = let below = ltb-true n (2 ^ 63) e in record { sfits = below }
unsigned_at n false e = tt

IsNumber-unsigned : (n : ℕ) → IsNumber (unsigned n)
IsNumber-unsigned n = unsigned_at n (nat_lt n (2 ^ 63)) refl

IsNumber-negative : (n : ℕ) → n ≤ 2 ^ 63 → IsNumber (negative (with_sign true n))
IsNumber-negative zero low = record { sfits = omega arith }
IsNumber-negative (suc n) low = record { sfits = omega (arith, low) }

either_number : (b : Bool) (x y : Option Num) → (b ≡ true → IfSome x IsNumber) → IfSome y IsNumber → IfSome (if b then x else y) IsNumber
either_number true x y f g = f refl
either_number false x y f g = g

float-IsNumber : (sign : Bool) (p : Parts) → IfSome (float_of sign p) IsNumber
float-IsNumber sign p = either_number (float_is_finite (nearest binary64 sign p)) (Some (float (nearest binary64 sign p))) None (λ e. tt) tt

from-IsNumber : (sign : Bool) (p : Parts) → IfSome (number_from sign p) IsNumber
from-IsNumber false p = either_number (is_integer p && nat_lt (digits_of p) (2 ^ 64)) _ _ (λ e. IsNumber-unsigned (digits_of p)) (float-IsNumber false p)
from-IsNumber true p =
    either_number (is_integer p && nat_lt 0 (digits_of p) && nat_le (digits_of p) (2 ^ 63)) _ _
    (λ e. IsNumber-negative (digits_of p) (leb-true (digits_of p) (2 ^ 63) (and_parts (is_integer p && nat_lt 0 (digits_of p)) _ e).1)) (float-IsNumber true p)

number-IsNumber : (s : List ℕ) → IfSome (number_of s) IsNumber
unfolding number_of
number-IsNumber s = either_number (slice_index s 0 == minus) _ _ (λ e. from-IsNumber true (scan (drop 1 s))) (from-IsNumber false (scan s))

-- ---- members that go in one after another

below_at : (o : Ordering) (k l m : List ℕ) (d e : Data) (ms : serde.Members) → slice_cmp nat_cmp k l ≡ Less → IsBelow k (of_members (serde.member m e ms)) → IsBelow k (of_members (put l d ms))
    → IsBelow k (of_members (match_ordering o (serde.member l d (serde.member m e ms)) (serde.member m d ms) (serde.member m e (put l d ms))))
below_at Less k l m d e ms less below rest = (less, below)
below_at Equal k l m d e ms less below rest = below
below_at Greater k l m d e ms less below rest = (below.0, rest)

below_more : (k l : List ℕ) (d : Data) (ms : serde.Members) → slice_cmp nat_cmp k l ≡ Less → IsBelow k (of_members ms) → IsBelow k (of_members (put l d ms))
below_more k l d serde.no_members less below = (less, tt)
below_more k l d (serde.member m e ms) less below = below_at (slice_cmp nat_cmp l m) k l m d e ms less below (below_more k l d ms less below.1)

below_less : (k l : List ℕ) (ms : serde.Members) → slice_cmp nat_cmp k l ≡ Less → IsBelow l (of_members ms) → IsBelow k (of_members ms)
below_less k l serde.no_members less below = tt
below_less k l (serde.member m e ms) less below = (nat_list_cmp_total.trans k l m less below.0, below_less k l ms less below.1)

put_at : (o : Ordering) (k l : List ℕ) (d e : Data) (ms : serde.Members) → slice_cmp nat_cmp k l ≡ o → IsUtf8 k → IsSound (of_data d) → AreSoundMembers (of_members (serde.member l e ms)) → AreSoundMembers (of_members (put k d ms))
    → AreSoundMembers (of_members (match_ordering o (serde.member k d (serde.member l e ms)) (serde.member l d ms) (serde.member l e (put k d ms))))
put_at Less k l d e ms is u sound all rest = (u, (is, below_less k l ms is all.1), sound, all)
put_at Equal k l d e ms is u sound all rest = (all.0, all.1, sound, all.3)
put_at Greater k l d e ms is u sound all rest = (all.0, below_more l k d ms (nat_list_cmp_total.antisymm l k ∙ ap ordering_reverse is) all.1, all.2, rest)

put-sound : (k : List ℕ) (d : Data) (ms : serde.Members) → IsUtf8 k → IsSound (of_data d) → AreSoundMembers (of_members ms) → AreSoundMembers (of_members (put k d ms))
put-sound k d serde.no_members u sound all = (u, tt, sound, tt)
put-sound k d (serde.member l e ms) u sound all = put_at (slice_cmp nat_cmp k l) k l d e ms refl u sound all (put-sound k d ms u sound all.3)

-- ---- values

numbered : (n : Option Num) → IfSome n IsNumber → IfSome (option_map serde.number n) (λ d. IsSound (of_data d))
numbered None h = tt
numbered (Some n) h = h

listed : (ds : Option serde.Items) → IfSome ds (λ js. AreSoundItems (of_items js)) → IfSome (option_map serde.array ds) (λ d. IsSound (of_data d))
listed None h = tt
listed (Some ds) h = h

keyed : (ms : Option serde.Members) → IfSome ms (λ ns. AreSoundMembers (of_members ns)) → IfSome (option_map serde.object ms) (λ d. IsSound (of_data d))
keyed None h = tt
keyed (Some ms) h = h

before : (d : Data) (ds : Option serde.Items) → IsSound (of_data d) → IfSome ds (λ js. AreSoundItems (of_items js)) → IfSome (option_map (serde.item d) ds) (λ js. AreSoundItems (of_items js))
before d None sound h = tt
before d (Some ds) sound h = (sound, h)

first_item : (d : Option Data) (ds : Option serde.Items) → IfSome d (λ e. IsSound (of_data e)) → IfSome ds (λ js. AreSoundItems (of_items js)) → IfSome (option_and_then (λ e. option_map (serde.item e) ds) d) (λ js. AreSoundItems (of_items js))
first_item None ds sound h = tt
first_item (Some d) ds sound h = before d ds sound h

first_member : (d : Option Data) (f : Data → Option serde.Members) → IfSome d (λ e. IsSound (of_data e)) → ((e : Data) → IsSound (of_data e) → IfSome (f e) (λ ns. AreSoundMembers (of_members ns))) → IfSome (option_and_then f d) (λ ns. AreSoundMembers (of_members ns))
first_member None f sound each = tt
first_member (Some d) f sound each = each d sound

mutual
  pub of_json-sound : (j : json.Json) → HasTexts j → IfSome (of_json j) (λ d. IsSound (of_data d))
  of_json-sound json.null h = tt
  of_json-sound (json.boolean b) h = tt
  of_json-sound (json.number s) h = numbered (number_of s) (number-IsNumber s)
  of_json-sound (json.string s) h = h
  of_json-sound (json.array js) h = listed (of_json_items js) (of_items-sound js h)
  of_json-sound (json.object ms) h = keyed (of_json_members ms serde.no_members) (of_members-sound ms serde.no_members h tt)

  of_items-sound : (js : json.Items) → ItemsHaveTexts js → IfSome (of_json_items js) (λ ds. AreSoundItems (of_items ds))
  of_items-sound json.no_items h = tt
  of_items-sound (json.item j js) h = first_item (of_json j) (of_json_items js) (of_json-sound j h.0) (of_items-sound js h.1)

  of_members-sound : (ms : json.Members) (found : serde.Members) → MembersHaveTexts ms → AreSoundMembers (of_members found) → IfSome (of_json_members ms found) (λ ns. AreSoundMembers (of_members ns))
  of_members-sound json.no_members found h sound = sound
  of_members-sound (json.member k j ms) found h sound =
      first_member (of_json j) (λ d. of_json_members ms (put k d found)) (of_json-sound j h.1) (λ d one. of_members-sound ms (put k d found) h.2 (put-sound k d found h.0 one sound))
