-- The counts of an event, as they are seen.
use Rattle.std.proofs.Common.{◌≡◌, ℕ, zero, suc, ◌+◌, ◌<◌, ◌≤◌, List, [], ◌∷◌, length, map, get_or, take, drop, Bool, cond, not, Option, Some, None, option_map, refl, sym, ap, ap₂, ◌∙◌, arith}
use Rattle.std.specs.Prelude.{sum_by, count_by, position, nat_lt}
use Rattle.std.specs.List.{position_or_len}
use Rattle.std.proofs.lemmas.List.{take-map, drop-map, length-map, length-drop, take_all}
use Rattle.std.proofs.lemmas.List.Folds.{fold-map}
use Rattle.std.proofs.lemmas.List.Sums.{sum_by_more}
use Rattle.json_tree.specs.Json.{Json, items_of}
use Rattle.jexl_value.specs.Value.{as_json}
use Rattle.jexl_value.specs.declared.value.Value.{Value}
use Rattle.jexl_transforms.specs.Events.{listed, count, is_counted, seen_from}

pub listed_items : (xs : List Json) → listed (items_of xs) ≡ xs
listed_items [] = refl
listed_items (x ∷ xs) = ap (λ l. x ∷ l) (listed_items xs)

-- the first items, as they are seen
pub first_seen_as : (vs ws : List Value) (n : ℕ) → ws ≡ take n vs → map as_json ws ≡ take n (map as_json vs)
first_seen_as vs ws n is = ap (map as_json) is ∙ sym (take-map as_json n vs)

-- some of them from an index on
pub part_seen_as : (vs ws : List Value) (from n : ℕ) → ws ≡ take n (drop from vs) → map as_json ws ≡ take n (drop from (map as_json vs))
part_seen_as vs ws from n is = first_seen_as (drop from vs) ws n is ∙ ap (take n) (sym (drop-map as_json from vs))

-- ---- sums

abbrev pub counted_as : Value → ℕ
counted_as v = count (as_json v)

abbrev pub one_for : Value → ℕ
one_for v = cond (is_counted (as_json v)) 1 0

turn : (f : Value → ℕ) (vs : List Value) (i : ℕ) (v : Value) (n total : ℕ) → i < length vs → v ≡ get_or vs i v → n ≡ f v → total ≡ sum_by f (take i vs) → total + n ≡ sum_by f (take (i + 1) vs)
turn f vs i v n total within is same so_far = ap₂ (λ a b. a + b) so_far (same ∙ ap f is) ∙ sym (sum_by_more f vs i v within)

pub sum_turn : (vs : List Value) (i : ℕ) (v : Value) (n total : ℕ) → i < length vs → v ≡ get_or vs i v → n ≡ count (as_json v) → total ≡ sum_by counted_as (take i vs) → total + n ≡ sum_by counted_as (take (i + 1) vs)
sum_turn vs i v n total within is same so_far = turn counted_as vs i v n total within is same so_far

pub number_turn : (vs : List Value) (i : ℕ) (v : Value) (n total : ℕ) → i < length vs → v ≡ get_or vs i v → n ≡ cond (is_counted (as_json v)) 1 0 → total ≡ sum_by one_for (take i vs) → total + n ≡ sum_by one_for (take (i + 1) vs)
number_turn vs i v n total within is same so_far = turn one_for vs i v n total within is same so_far

pub sum_end : (vs : List Value) (i total : ℕ) → length vs ≤ i → total ≡ sum_by counted_as (take i vs) → total ≡ sum_by count (map as_json vs)
sum_end vs i total past so_far = so_far ∙ ap (sum_by counted_as) (take_all i vs past) ∙ sym (fold-map (λ a x. a + count x) as_json 0 vs)

pub number_end : (vs : List Value) (i total : ℕ) → length vs ≤ i → total ≡ sum_by one_for (take i vs) → total ≡ count_by is_counted (map as_json vs)
number_end vs i total past so_far = so_far ∙ ap (sum_by one_for) (take_all i vs past) ∙ sym (fold-map (λ a x. a + cond (is_counted x) 1 0) as_json 0 vs)

-- ---- the first above 0

position_or_len-seen : (vs : List Value) → position_or_len is_counted (map as_json vs) ≡ position_or_len (λ v. is_counted (as_json v)) vs
position_or_len-seen [] = refl
position_or_len-seen (v ∷ vs) = ap (λ n. cond (not (is_counted (as_json v))) (1 + n) 0) (position_or_len-seen vs)

position-seen : (vs : List Value) → position is_counted (map as_json vs) ≡ position (λ v. is_counted (as_json v)) vs
position-seen vs = ap₂ (λ p n. cond (nat_lt p n) (Some p) None) (position_or_len-seen vs) (length-map vs as_json)

-- looked for from an index on
pub seen_later : (vs ws : List Value) (from : ℕ) (r : Option ℕ) → ws ≡ drop from vs → r ≡ position (λ v. is_counted (as_json v)) ws → option_map (λ i. from + i) r ≡ seen_from from (map as_json vs)
seen_later vs ws from r is found =
    ap (option_map (λ i. from + i))
    (found ∙ ap (position (λ v. is_counted (as_json v))) is ∙ sym (position-seen (drop from vs)) ∙ ap (position is_counted) (sym (drop-map as_json from vs)))
