-- The texts of values and holds tell them apart.
use Rattle.std.proofs.Common.{◌≡◌, ℕ, ◌<◌, List, [], ◌∷◌, ◌++◌, length, true, false, pos, negsuc, Option, Some, None, refl, sym, ap, ◌∙◌, arith}
use Rattle.std.proofs.lemmas.Fmt.{decimal_nonempty}
use Rattle.json_tree.specs.Json.{depth, IsSound as IsSoundJson}
use Rattle.json_tree.specs.Bytes.{tree_of, max_depth, IsTooDeep}
use Rattle.json_tree.specs.Tree.{json_of}
use Rattle.json_tree.specs.Inverse.{json_of-injective, one_value}
use Rattle.json_tree.specs.declared.tree.Tree.{Tree}
use Rattle.json_tree.specs.declared.tree.Tree.TheVariants.{Null, Truth, Whole, Odd, Text, List as Items, Object}
use Rattle.json_tree.proofs.RoundTrip.{tree_of-text_of}
use Rattle.row_batches.proofs.Fields.{front_same, rest_same}
use Rattle.pref_bindings.specs.declared.preference.Hold.{Hold}
use Rattle.pref_bindings.specs.Preferences.{IsHold, IsValue, IsValueOrNone}
use Rattle.pref_bindings.specs.Rows.{value_text, before_text, hold_text}

sound_json : (v : Tree) → IsValue v → IsSoundJson (json_of v)
sound_json Null is = absurd is
sound_json (Truth b) is = tt
sound_json (Whole n) is = is
sound_json Odd is = absurd is
sound_json (Text s) is = is
sound_json (Items xs) is = absurd is
sound_json (Object ms) is = absurd is

flat : (v : Tree) → IsValue v → depth (json_of v) ≡ 0
flat Null is = absurd is
flat (Truth b) is = refl
flat (Whole n) is = refl
flat Odd is = absurd is
flat (Text s) is = refl
flat (Items xs) is = absurd is
flat (Object ms) is = absurd is

pub reads : (v : Tree) → IsValue v → tree_of (value_text v) ≡ Some (json_of v)
unfolding value_text
reads v is = let depth_is = flat v is in tree_of-text_of (json_of v) (sound_json v is) (omega (arith, depth_is))

pub same_values : (v w : Tree) → IsValue v → IsValue w → value_text v ≡ value_text w → v ≡ w
same_values v w v_is w_is same = json_of-injective v w (one_value (json_of v) (json_of w) (sym (reads v v_is) ∙ ap tree_of same ∙ reads w w_is))

-- a value's tree is no other, and not too deep
pub read_is : (v : Tree) (bytes : List ℕ) → IsValue v → bytes ≡ value_text v → tree_of bytes ≡ Some (json_of v)
read_is v bytes is same = ap tree_of same ∙ reads v is

pub not_deep : (v : Tree) (bytes : List ℕ) → IsValue v → bytes ≡ value_text v → IsTooDeep bytes → ⊥
not_deep v bytes is same deep =
    let one : deep.0 ≡ json_of v = one_value deep.0 (json_of v) (sym deep.1 ∙ read_is v bytes is same) in
    let depth_is : depth deep.0 ≡ 0 = ap depth one ∙ flat v is in
    let over : max_depth < depth deep.0 = deep.2 in
    omega (arith, depth_is, over)

pub same_tree : (v t : Tree) (bytes : List ℕ) → IsValue v → bytes ≡ value_text v → tree_of bytes ≡ Some (json_of t) → t ≡ v
same_tree v t bytes is same read = json_of-injective t v (one_value (json_of t) (json_of v) (sym read ∙ read_is v bytes is same))

pub some_text : (v : Tree) → IsValue v → value_text v ≡ [] → ⊥
unfolding value_text
some_text Null is none = is
some_text (Truth true) is none = cc
some_text (Truth false) is none = cc
some_text (Whole (pos n)) is none = let some = decimal_nonempty n (omega arith) in omega (arith, some, ap length none)
some_text (Whole (negsuc n)) is none = cc
some_text Odd is none = is
some_text (Text s) is none = cc
some_text (Items xs) is none = is
some_text (Object ms) is none = is

pub same_before : (v w : Option Tree) → IsValueOrNone v → IsValueOrNone w → before_text v ≡ before_text w → v ≡ w
same_before None None v_is w_is same = refl
same_before None (Some w) v_is w_is same = absurd (some_text w w_is (sym same))
same_before (Some v) None v_is w_is same = absurd (some_text v v_is same)
same_before (Some v) (Some w) v_is w_is same = ap Some (same_values v w v_is w_is same)

-- what follows a length and as many bytes
pub same_text_parts : (xs ys us vs : List ℕ) → length xs ∷ (xs ++ us) ≡ length ys ∷ (ys ++ vs) → (xs ≡ ys) × (us ≡ vs)
same_text_parts xs ys us vs same =
    let len : length xs ≡ length ys = cc in
    let rest : xs ++ us ≡ ys ++ vs = cc in
    (front_same xs ys us vs len rest, rest_same xs ys us vs len rest)

pub same_holds : (h k : Hold) → IsHold (Some h) → IsHold (Some k) → hold_text h.holder h.before ≡ hold_text k.holder k.before → h ≡ k
same_holds h k h_is k_is same =
    let parts = same_text_parts h.holder k.holder (before_text h.before) (before_text k.before) same in
    let before = same_before h.before k.before h_is.1 k_is.1 parts.1 in
    (λ i. record { holder = parts.0 i; before = before i })

pub read_none : (v : Tree) (bytes : List ℕ) → IsValue v → bytes ≡ value_text v → tree_of bytes ≡ None → ⊥
read_none v bytes is same none = let two : None ≡ Some (json_of v) = sym none ∙ read_is v bytes is same in cc
