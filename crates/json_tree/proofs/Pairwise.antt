-- Lists are equal where they are as long and equal at each place.
use Rattle.std.proofs.Common.{◌≡◌, ◌≢◌, ℕ, suc, ◌≤◌, List, [], ◌∷◌, length, map, Bool, true, false, ◌&&◌, sym, ap, ap₂, ◌∙◌, subst, arith, refl}
use Rattle.std.specs.Prelude.{bytes_eq}
use Rattle.json_tree.specs.Json.{Json, depth, items_depth, members_depth, items_of, members_of}
use Rattle.json_tree.specs.Equal.{json_eq, items_eq, members_eq}
use Rattle.json_tree.proofs.Pairs.{keyed}

and_false : (b : Bool) {later : Bool} → later ≡ false → b && later ≡ false
and_false true e = e
and_false false e = refl

-- of values
abbrev pub values_eq : {A : Type 0} → (A → Json) → List A → List A → Bool
values_eq value ls rs = items_eq (items_of (map value ls)) (items_of (map value rs))

abbrev pub values_depth : {A : Type 0} → (A → Json) → List A → ℕ
values_depth value ts = items_depth (items_of (map value ts))

-- of keys and values
abbrev pub pairs_eq : {A : Type 0} → (A → Json) → List (List ℕ × A) → List (List ℕ × A) → Bool
pairs_eq value ls rs = members_eq (members_of (map (keyed value) ls)) (members_of (map (keyed value) rs))

abbrev pub pairs_depth : {A : Type 0} → (A → Json) → List (List ℕ × A) → ℕ
pairs_depth value ps = members_depth (members_of (map (keyed value) ps))

abbrev pub pair_eq : {A : Type 0} → (A → Json) → List ℕ × A → List ℕ × A → Bool
pair_eq value l r = bytes_eq l.0 r.0 && json_eq (value l.1) (value r.1)

-- ---- values

values_eq-unequal : {A : Type 0} (value : A → Json) (ls rs : List A) → (length ls ≢ length rs) → values_eq value ls rs ≡ false
values_eq-unequal value [] [] other = absurd (other refl)
values_eq-unequal value [] (r ∷ rs) other = refl
values_eq-unequal value (l ∷ ls) [] other = refl
values_eq-unequal value (l ∷ ls) (r ∷ rs) other = and_false (json_eq (value l) (value r)) (values_eq-unequal value ls rs (λ same. other (ap suc same)))

-- lists of two lengths are not equal
pub unequal_values : {A : Type 0} (value : A → Json) (ls rs : List A) (xs ys : List Json) → map value ls ≡ xs → map value rs ≡ ys → (length ls ≢ length rs) → false ≡ items_eq (items_of xs) (items_of ys)
unequal_values value ls rs xs ys left right other = sym (values_eq-unequal value ls rs other) ∙ ap₂ (λ l r. items_eq (items_of l) (items_of r)) left right

-- before the first turn
pub values_begun : {A : Type 0} (value : A → Json) (ls rs ps qs : List A) (xs ys : List Json) → map value ls ≡ xs → map value rs ≡ ys → length ls ≡ length rs → ps ≡ ls → qs ≡ rs
    → (length ps ≡ length qs) × (values_depth value ps ≤ items_depth (items_of xs)) × (values_eq value ps qs ≡ items_eq (items_of xs) (items_of ys))
values_begun value ls rs ps qs xs ys left right long a b =
    let deep : values_depth value ps ≡ items_depth (items_of xs) = ap (values_depth value) a ∙ ap (λ l. items_depth (items_of l)) left in
    (ap length a ∙ long ∙ sym (ap length b), omega (arith, deep), ap₂ (values_eq value) a b ∙ ap₂ (λ l r. items_eq (items_of l) (items_of r)) left right)

-- a turn: the first of each, and the rest
pub values_turn : {A : Type 0} (value : A → Json) (ps qs ps' qs' : List A) (one other : A) (deep : ℕ) (answer : Bool) → (ps ≡ one ∷ ps') × (qs ≡ other ∷ qs') → length ps ≡ length qs → values_depth value ps ≤ deep → values_eq value ps qs ≡ answer
    → (depth (value one) ≤ deep) × (length ps' ≡ length qs') × (values_depth value ps' ≤ deep) × ((json_eq (value one) (value other) && values_eq value ps' qs') ≡ answer)
values_turn value ps qs ps' qs' one other deep answer steps long within same =
    let below : values_depth value (one ∷ ps') ≤ deep = subst (λ l. values_depth value l ≤ deep) steps.0 within in
    let both : length (one ∷ ps') ≡ length (other ∷ qs') = sym (ap length steps.0) ∙ long ∙ ap length steps.1 in
    (omega arith, omega arith, omega arith, sym (ap₂ (values_eq value) steps.0 steps.1) ∙ same)

-- ---- pairs

pairs_eq-unequal : {A : Type 0} (value : A → Json) (ls rs : List (List ℕ × A)) → (length ls ≢ length rs) → pairs_eq value ls rs ≡ false
pairs_eq-unequal value [] [] other = absurd (other refl)
pairs_eq-unequal value [] (r ∷ rs) other = refl
pairs_eq-unequal value (l ∷ ls) [] other = refl
pairs_eq-unequal value (l ∷ ls) (r ∷ rs) other = and_false (pair_eq value l r) (pairs_eq-unequal value ls rs (λ same. other (ap suc same)))

-- lists of two lengths are not equal
pub unequal_pairs : {A : Type 0} (value : A → Json) (ls rs : List (List ℕ × A)) (xs ys : List (List ℕ × Json)) → map (keyed value) ls ≡ xs → map (keyed value) rs ≡ ys → (length ls ≢ length rs) → false ≡ members_eq (members_of xs) (members_of ys)
unequal_pairs value ls rs xs ys left right other = sym (pairs_eq-unequal value ls rs other) ∙ ap₂ (λ l r. members_eq (members_of l) (members_of r)) left right

-- before the first turn
pub pairs_begun : {A : Type 0} (value : A → Json) (ls rs ps qs : List (List ℕ × A)) (xs ys : List (List ℕ × Json)) → map (keyed value) ls ≡ xs → map (keyed value) rs ≡ ys → length ls ≡ length rs → ps ≡ ls → qs ≡ rs
    → (length ps ≡ length qs) × (pairs_depth value ps ≤ members_depth (members_of xs)) × (pairs_eq value ps qs ≡ members_eq (members_of xs) (members_of ys))
pairs_begun value ls rs ps qs xs ys left right long a b =
    let deep : pairs_depth value ps ≡ members_depth (members_of xs) = ap (pairs_depth value) a ∙ ap (λ l. members_depth (members_of l)) left in
    (ap length a ∙ long ∙ sym (ap length b), omega (arith, deep), ap₂ (pairs_eq value) a b ∙ ap₂ (λ l r. members_eq (members_of l) (members_of r)) left right)

-- a turn: the first of each, and the rest
pub pairs_turn : {A : Type 0} (value : A → Json) (ps qs ps' qs' : List (List ℕ × A)) (one other : (List ℕ × A)) (deep : ℕ) (answer : Bool) → (ps ≡ one ∷ ps') × (qs ≡ other ∷ qs') → length ps ≡ length qs → pairs_depth value ps ≤ deep → pairs_eq value ps qs ≡ answer
    → (depth (value one.1) ≤ deep) × (length ps' ≡ length qs') × (pairs_depth value ps' ≤ deep) × ((pair_eq value one other && pairs_eq value ps' qs') ≡ answer)
pairs_turn value ps qs ps' qs' one other deep answer steps long within same =
    let below : pairs_depth value (one ∷ ps') ≤ deep = subst (λ l. pairs_depth value l ≤ deep) steps.0 within in
    let both : length (one ∷ ps') ≡ length (other ∷ qs') = sym (ap length steps.0) ∙ long ∙ ap length steps.1 in
    (omega arith, omega arith, omega arith, sym (ap₂ (pairs_eq value) steps.0 steps.1) ∙ same)
