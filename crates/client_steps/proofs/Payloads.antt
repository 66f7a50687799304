-- A payload keeps at most as many recipes as it has records, which are at most 2,000; and they are in order and valid.
use Rattle.std.proofs.Common.{Ordering, Less, Equal, Greater, ◌≡◌, ◌≤◌, ℕ, ◌+◌, Bool, true, false, List, [], ◌∷◌, length, arith, Option, None, Some, Result, Ok, Err, subst, refl}
use Rattle.std.specs.Prelude.{if◌then◌else◌, nat_le, bytes_eq}
use Rattle.std.specs.Ordering.{is_lt}
use Rattle.std.proofs.lemmas.Bool.{leb-true, or_parts}
use Rattle.json_tree.specs.Json.{Json, Items, no_items, item}
use Rattle.recipe_reader.specs.Branches.{items_len}
use Rattle.recipe_reader.specs.Records.{recipe_of, IsValid}
use Rattle.recipe_reader.proofs.Again.{recipe_again}
use Rattle.recipe_reader.specs.Payloads.{slug_cmp, AreAbove, AreInOrder, AreValid, has_slug, with_recipe, skipping, taking, payload_from, no_records, records_in, counted, payload_of}
use Rattle.recipe_reader.specs.declared.payload.Payload.{Payload}
use Rattle.recipe_reader.specs.declared.payload.PayloadFault.{PayloadFault}
use Rattle.recipe_reader.specs.declared.recipe.Recipe.{Recipe}
use Rattle.recipe_reader.specs.declared.recipe.SkipReason.{SkipReason}
use Rattle.recipe_reader.specs.declared.recipe.SkipReason.TheVariants.{Duplicate}
use Rattle.enrol_states.specs.Consistent.{AreKept}
use Rattle.enrol_states.proofs.Ordered.{equal_texts, less_trans, turned_down, bytes_turned}

abbrev read_as : Payload → Result Payload PayloadFault
read_as p = Ok p

ok_same : (p q : Payload) → read_as p ≡ read_as q → p ≡ q
ok_same p q is = cc

longer : (b : Bool) (r q : Recipe) (qs placed : List Recipe) → length placed ≤ length qs + 1 → length (if b then r ∷ q ∷ qs else q ∷ placed) ≤ length qs + 2
longer true r q qs placed within = omega (arith, within)
longer false r q qs placed within = omega (arith, within)

with_recipe_length : (r : Recipe) (rs : List Recipe) → length (with_recipe r rs) ≤ length rs + 1
with_recipe_length r [] = omega arith
with_recipe_length r (q ∷ qs) = omega (arith, longer (is_lt (slug_cmp r.slug q.slug)) r q qs (with_recipe r qs) (with_recipe_length r qs))

kept_or_not : (b : Bool) (p q : Payload) (n : ℕ) → length p.recipes ≤ n → length q.recipes ≤ n → length (if b then p else q).recipes ≤ n
kept_or_not true p q n first second = first
kept_or_not false p q n first second = second

taken_length : (i : ℕ) (read : Result Recipe SkipReason) (p : Payload) → length (taking i read p).recipes ≤ length p.recipes + 1
taken_length i (Ok r) p = kept_or_not (has_slug r.slug p.recipes) _ _ _ (omega arith) (with_recipe_length r p.recipes)
taken_length i (Err reason) p = omega arith

from_length : (i : ℕ) (p : Payload) (xs : Items) → length (payload_from i p xs).recipes ≤ length p.recipes + items_len xs
from_length i p no_items = omega arith
from_length i p (item x xs) = omega (arith, from_length (i + 1) (taking i (recipe_of x) p) xs, taken_length i (recipe_of x) p)

of_choice : (b : Bool) (made p : Payload) (fault : PayloadFault) (n : ℕ) → (b ≡ true → length made.recipes ≤ n) → (if b then Ok made else Err fault) ≡ Ok p → length p.recipes ≤ n
of_choice true made p fault n small is = subst (λ (q : Payload). length q.recipes ≤ n) (ok_same made p is) (small refl)
of_choice false made p fault n small is = absurd (grind (arith, is))

of_records : (found : Option Items) (p : Payload) → counted found ≡ Ok p → length p.recipes ≤ 2000
of_records None p is = absurd (grind (arith, is))
of_records (Some xs) p is =
    of_choice (nat_le (items_len xs) 2000) (payload_from 0 no_records xs) p _ 2000 (λ small. omega (arith, from_length 0 no_records xs, leb-true (items_len xs) 2000 small)) is

pub payload_length : (x : Json) (p : Payload) → payload_of x ≡ Ok p → length p.recipes ≤ 2000
unfolding payload_of
payload_length x p is = of_records (records_in x) p is

-- ---- what is kept is in order and valid

above_lower : (a b : List ℕ) (rs : List Recipe) → slug_cmp a b ≡ Less → AreAbove b rs → AreAbove a rs
above_lower a b [] less above = tt
above_lower a b (r ∷ rs) less above = (less_trans a b r.slug less above.0, above_lower a b rs less above.1)

above_with : (s : List ℕ) (r : Recipe) (rs : List Recipe) → slug_cmp s r.slug ≡ Less → AreAbove s rs → AreAbove s (with_recipe r rs)
above_with s r [] less above = (less, tt)
above_with s r (q ∷ qs) less above =
    elim (is_lt (slug_cmp r.slug q.slug)) as (λ b. AreAbove s (if b then r ∷ q ∷ qs else q ∷ with_recipe r qs)) [
      | true ↦ (less, above)
      | false ↦ (above.0, above_with s r qs less above.1)
    ]

order_at : (r q : Recipe) (qs : List Recipe) (o : Ordering) → slug_cmp r.slug q.slug ≡ o → bytes_eq q.slug r.slug ≡ false → AreInOrder (q ∷ qs) → AreInOrder (with_recipe r qs) → AreInOrder (if is_lt o then r ∷ q ∷ qs else q ∷ with_recipe r qs)
order_at r q qs Less e apart order rest = ((e, above_lower r.slug q.slug qs e order.0), order)
order_at r q qs Equal e apart order rest = absurd (let same = equal_texts r.slug q.slug e in let turn = bytes_turned q.slug r.slug in cc)
order_at r q qs Greater e apart order rest = (above_with q.slug r qs (turned_down r.slug q.slug e) order.0, rest)

order_with : (r : Recipe) (rs : List Recipe) → has_slug r.slug rs ≡ false → AreInOrder rs → AreInOrder (with_recipe r rs)
order_with r [] new order = (tt, tt)
order_with r (q ∷ qs) new order =
    let apart = or_parts (bytes_eq q.slug r.slug) (has_slug r.slug qs) new in
    order_at r q qs (slug_cmp r.slug q.slug) refl apart.0 order (order_with r qs apart.1 order.1)

valid_with : (r : Recipe) (rs : List Recipe) → IsValid r → AreValid rs → AreValid (with_recipe r rs)
valid_with r [] one all = (one, tt)
valid_with r (q ∷ qs) one all =
    elim (is_lt (slug_cmp r.slug q.slug)) as (λ b. AreValid (if b then r ∷ q ∷ qs else q ∷ with_recipe r qs)) [
      | true ↦ (one, all)
      | false ↦ (all.0, valid_with r qs one all.1)
    ]

abbrev AreGood : Payload → Type 0
AreGood p = AreInOrder p.recipes × AreValid p.recipes

keeping_at : (i : ℕ) (r : Recipe) (p : Payload) (b : Bool) → has_slug r.slug p.recipes ≡ b → IsValid r → AreGood p → AreGood (if b then skipping i Duplicate p else record { recipes = with_recipe r p.recipes; skipped = p.skipped })
keeping_at i r p true e one good = good
keeping_at i r p false e one good = (order_with r p.recipes e good.0, valid_with r p.recipes one good.1)

taking_good : (i : ℕ) (x : Json) (read : Result Recipe SkipReason) (p : Payload) → recipe_of x ≡ read → AreGood p → AreGood (taking i read p)
taking_good i x (Ok r) p is good = keeping_at i r p (has_slug r.slug p.recipes) refl (recipe_again x r is) good
taking_good i x (Err reason) p is good = good

from_good : (i : ℕ) (p : Payload) (xs : Items) → AreGood p → AreGood (payload_from i p xs)
from_good i p no_items good = good
from_good i p (item x xs) good = from_good (i + 1) (taking i (recipe_of x) p) xs (taking_good i x (recipe_of x) p refl good)

good_choice : (b : Bool) (made p : Payload) (fault : PayloadFault) → AreGood made → (if b then Ok made else Err fault) ≡ Ok p → AreGood p
good_choice true made p fault good is = subst AreGood (ok_same made p is) good
good_choice false made p fault good is = absurd (grind (arith, is))

good_records : (found : Option Items) (p : Payload) → counted found ≡ Ok p → AreGood p
good_records None p is = absurd (grind (arith, is))
good_records (Some xs) p is = good_choice (nat_le (items_len xs) 2000) (payload_from 0 no_records xs) p _ (from_good 0 no_records xs (tt, tt)) is

payload_good : (x : Json) (p : Payload) → payload_of x ≡ Ok p → AreGood p
unfolding payload_of
payload_good x p is = good_records (records_in x) p is

pub payload_kept : (x : Json) (p : Payload) → payload_of x ≡ Ok p → AreKept p.recipes
payload_kept x p is = let good = payload_good x p is in record { in_order = good.0; limit = payload_length x p is; valid = good.1 }
