-- Walks over lists, by the place that they have come to.
use Rattle.std.proofs.Common.{◌≡◌, ℕ, zero, suc, ◌+◌, ◌<◌, Bool, false, ◌||◌, List, [], ◌∷◌, length, Option, Some, None, option_map, MatchOption, IfSome, Bor, ◌≤◌, map, get_or, drop, refl, sym, ap, ◌∙◌, arith, add-one, drop-cons}
use Rattle.std.specs.Prelude.{ℤ, pos, negsuc, int_lt, unsigned_abs, is_some}
use Rattle.std.proofs.Math.Dec.{ltb}
use Rattle.std.proofs.lemmas.Bool.{true≢false, ltb-true, ltb-false}
use Rattle.json_tree.specs.Json.{Json, Items, list, whole, items_of}
use Rattle.json_tree.specs.Equal.{json_eq}
use Rattle.jexl_value.specs.Value.{as_json}
use Rattle.jexl_value.specs.declared.value.Value.{Value}
use Rattle.jexl_eval.specs.Elements.{or_null, index, is_item, item_at}

pub drop_next : {A : Type 0} (xs : List A) (i : ℕ) (x : A) → i < length xs → x ≡ get_or xs i x → drop i xs ≡ x ∷ drop (i + 1) xs
drop_next xs i x h is = drop-cons xs i x h ∙ ap (λ y. y ∷ drop (suc i) xs) (sym is) ∙ ap (λ n. x ∷ drop n xs) (sym (add-one i))

-- a turn of the walk for an item
pub item_turn : (x : Json) (vs : List Value) (i : ℕ) (v : Value) (b : Bool) → i < length vs → v ≡ get_or vs i v → b ≡ json_eq x (as_json v)
    → is_item x (items_of (map as_json (drop i vs))) ≡ (b || is_item x (items_of (map as_json (drop (i + 1) vs))))
item_turn x vs i v b h is same = ap (λ ws. is_item x (items_of (map as_json ws))) (drop_next vs i v h is) ∙ ap (λ t. t || is_item x (items_of (map as_json (drop (i + 1) vs)))) (sym same)

-- the item at a place
item_of : (vs : List Value) (n : ℕ) (o : Option Value) → MatchOption o (length vs ≤ n) (λ v. (n < length vs) × (v ≡ get_or vs n v)) → option_map as_json o ≡ item_at n (items_of (map as_json vs))
item_of [] n None h = refl
item_of [] n (Some v) h = absurd (omega (arith, h.0))
item_of (v ∷ vs) zero None h = absurd (omega arith)
item_of (v ∷ vs) zero (Some w) h = ap (λ u. Some (as_json u)) h.1
item_of (v ∷ vs) (suc n) None h = item_of vs n None (omega arith)
item_of (v ∷ vs) (suc n) (Some w) h = item_of vs n (Some w) (omega (arith, h.0), h.1)

pub item_got : (vs : List Value) (xs : List Json) (n : ℕ) (r : Option (Bor Value)) → map as_json vs ≡ xs → is_some r ≡ ltb n (length vs) → IfSome r (λ x. x.now ≡ get_or vs n x.now)
    → option_map (λ x. as_json x.now) r ≡ item_at n (items_of xs)
item_got vs xs n None same e h = item_of vs n None (ltb-false n (length vs) (sym e)) ∙ ap (λ ys. item_at n (items_of ys)) same
item_got vs xs n (Some x) same e h = item_of vs n (Some x.now) (ltb-true n (length vs) (sym e), h) ∙ ap (λ ys. item_at n (items_of ys)) same

-- the place of an item is a number from 0
pub at_place : (xs : Items) (z : ℤ) → int_lt z (pos 0) ≡ false → index (list xs) (whole z) ≡ or_null (item_at (unsigned_abs z) xs)
at_place xs (pos n) h = refl
at_place xs (negsuc n) h = absurd (true≢false h)
