-- Two versions part by part.
use Rattle.std.proofs.Common.{◌≡◌, ℕ, suc, ◌-◌, ◌≤◌, Bool, true, false, cond, List, [], ◌∷◌, ◌++◌, length, refl, sym, ap, subst, ◌∙◌, arith, ◌⊎◌, inl, inr}
use Rattle.std.specs.Prelude.{◌==◌, map, take, replicate}
use Rattle.std.specs.Cmp.Lexicographic.{slice_cmp}
use Rattle.std.specs.Ordering.{is_ne, ordering_then}
use Rattle.std.specs.declared.cmp.Ordering.{Ordering}
use Rattle.std.specs.declared.cmp.Ordering.TheVariants.{Less, Equal, Greater}
use Rattle.sequences.specs.Runs.{prepend, run}
use Rattle.version_compare.specs.Bytes.{is_no_dot}
use Rattle.version_compare.specs.Versions.{Part, empty_part, part_cmp, part_of, parts, parts_cmp, split, version_order, with_first_byte}
use Rattle.version_compare.specs.Cutting.{without_first, IsCut}
use Rattle.version_compare.proofs.RunLaws.{run_short, taken}

-- ---- the first part of a version

-- the first part is the run up to a dot, and the others are those of what follows the dot, if any
pub record SplitsFirst (bs : List ℕ) : Type 0 where
  pub more : List (List ℕ)
  pub parts : split bs ≡ (run is_no_dot bs).0 ∷ more
  pub rest : ((more ≡ []) × (without_first (run is_no_dot bs).1 ≡ [])) ⊎ (more ≡ split (without_first (run is_no_dot bs).1))

splits_by : (b : ℕ) (bs : List ℕ) (t : Bool) → (b == 46) ≡ t → SplitsFirst bs → SplitsFirst (b ∷ bs)
unfolding split run
splits_by b bs true e c = record {
  more = split bs;
  parts = ap (λ (t : Bool). cond t ([] ∷ split bs) (with_first_byte b (split bs))) e ∙ sym (ap (λ (t : Bool). (cond (cond t false true) (prepend b (run is_no_dot bs)) ([], b ∷ bs)).0 ∷ split bs) e);
  rest = inr (sym (ap (λ (t : Bool). split (without_first (cond (cond t false true) (prepend b (run is_no_dot bs)) ([], b ∷ bs)).1)) e));
}
splits_by b bs false e c = record {
  more = c.more;
  parts = ap (λ (t : Bool). cond t ([] ∷ split bs) (with_first_byte b (split bs))) e ∙ ap (with_first_byte b) c.parts ∙ sym (ap (λ (t : Bool). (cond (cond t false true) (prepend b (run is_no_dot bs)) ([], b ∷ bs)).0 ∷ c.more) e);
  rest = subst (λ (t : Bool). ((c.more ≡ []) × (without_first (cond (cond t false true) (prepend b (run is_no_dot bs)) ([], b ∷ bs)).1 ≡ [])) ⊎ (c.more ≡ split (without_first (cond (cond t false true) (prepend b (run is_no_dot bs)) ([], b ∷ bs)).1))) (sym e) c.rest;
}

splits_first : (bs : List ℕ) → SplitsFirst bs
unfolding split run
splits_first [] = record { more = []; parts = refl; rest = inl (refl, refl) }
splits_first (b ∷ bs) = splits_by b bs (b == 46) refl (splits_first bs)

-- ---- lists of parts, the shorter one filled

-- two lists with so many empty parts after them
abbrev pub filled_by : List Part → List Part → ℕ → ℕ → Ordering
filled_by ps qs n m = slice_cmp part_cmp (ps ++ replicate n empty_part) (qs ++ replicate m empty_part)

pub both : (p q : Part) (ps qs : List Part) → parts_cmp (p ∷ ps) (q ∷ qs) ≡ ordering_then (part_cmp p q) (parts_cmp ps qs)
unfolding parts_cmp
both p q ps qs =
    let n : length (q ∷ qs) - length (p ∷ ps) ≡ length qs - length ps = omega arith in
    let m : length (p ∷ ps) - length (q ∷ qs) ≡ length ps - length qs = omega arith in
    ap (λ (k : ℕ). filled_by (p ∷ ps) (q ∷ qs) k (length (p ∷ ps) - length (q ∷ qs))) n ∙ ap (filled_by (p ∷ ps) (q ∷ qs) (length qs - length ps)) m

-- no part and one empty part are alike
pub pad_left : (us : List Part) → parts_cmp [] us ≡ parts_cmp (empty_part ∷ []) us
unfolding parts_cmp run
pad_left [] = refl
pad_left (u ∷ us) =
    let n : length (u ∷ us) - length {A = Part} [] ≡ suc (length us) = omega arith in
    let m : length {A = Part} [] - length (u ∷ us) ≡ 0 = omega arith in
    let k : length (u ∷ us) - length (empty_part ∷ []) ≡ length us = omega arith in
    let l : length (empty_part ∷ []) - length (u ∷ us) ≡ 0 = omega arith in
    ap (λ (i : ℕ). filled_by [] (u ∷ us) i (length {A = Part} [] - length (u ∷ us))) n
    ∙ ap (filled_by [] (u ∷ us) (suc (length us))) m
    ∙ sym (ap (λ (i : ℕ). filled_by (empty_part ∷ []) (u ∷ us) i (length (empty_part ∷ []) - length (u ∷ us))) k
    ∙ ap (filled_by (empty_part ∷ []) (u ∷ us) (length us)) l)

pub pad_right : (us : List Part) → parts_cmp us [] ≡ parts_cmp us (empty_part ∷ [])
unfolding parts_cmp run
pad_right [] = refl
pad_right (u ∷ us) =
    let n : length (u ∷ us) - length {A = Part} [] ≡ suc (length us) = omega arith in
    let m : length {A = Part} [] - length (u ∷ us) ≡ 0 = omega arith in
    let k : length (u ∷ us) - length (empty_part ∷ []) ≡ length us = omega arith in
    let l : length (empty_part ∷ []) - length (u ∷ us) ≡ 0 = omega arith in
    ap (λ (i : ℕ). filled_by (u ∷ us) [] (length {A = Part} [] - length (u ∷ us)) i) n
    ∙ ap (λ (i : ℕ). filled_by (u ∷ us) [] i (suc (length us))) m
    ∙ sym (ap (λ (i : ℕ). filled_by (u ∷ us) (empty_part ∷ []) (length (empty_part ∷ []) - length (u ∷ us)) i) k
    ∙ ap (λ (i : ℕ). filled_by (u ∷ us) (empty_part ∷ []) i (length us)) l)

-- ---- a turn of the comparison

no_parts : parts [] ≡ empty_part ∷ []
unfolding split
no_parts = refl

left_rest : (ws : List (List ℕ)) (r : List ℕ) (us : List Part) → ((ws ≡ []) × (r ≡ [])) ⊎ (ws ≡ split r) → parts_cmp (map part_of ws) us ≡ parts_cmp (parts r) us
left_rest ws r us (inl e) =
    ap (λ (w : List (List ℕ)). parts_cmp (map part_of w) us) e.0 ∙ pad_left us ∙ ap (λ (w : List Part). parts_cmp w us) (sym no_parts) ∙ ap (λ (w : List ℕ). parts_cmp (parts w) us) (sym e.1)
left_rest ws r us (inr e) = ap (λ (w : List (List ℕ)). parts_cmp (map part_of w) us) e

right_rest : (ws : List (List ℕ)) (r : List ℕ) (us : List Part) → ((ws ≡ []) × (r ≡ [])) ⊎ (ws ≡ split r) → parts_cmp us (map part_of ws) ≡ parts_cmp us (parts r)
right_rest ws r us (inl e) =
    ap (λ (w : List (List ℕ)). parts_cmp us (map part_of w)) e.0 ∙ pad_right us ∙ ap (λ (w : List Part). parts_cmp us w) (sym no_parts) ∙ ap (λ (w : List ℕ). parts_cmp us (parts w)) (sym e.1)
right_rest ws r us (inr e) = ap (λ (w : List (List ℕ)). parts_cmp us (map part_of w)) e

turn : (x y : List ℕ) → version_order x y ≡ ordering_then (part_cmp (part_of (run is_no_dot x).0) (part_of (run is_no_dot y).0)) (version_order (without_first (run is_no_dot x).1) (without_first (run is_no_dot y).1))
turn x y =
    let c = splits_first x in
    let d = splits_first y in
    let o = part_cmp (part_of (run is_no_dot x).0) (part_of (run is_no_dot y).0) in
    ap (λ (w : List (List ℕ)). parts_cmp (map part_of w) (parts y)) c.parts
    ∙ ap (λ (w : List (List ℕ)). parts_cmp (map part_of ((run is_no_dot x).0 ∷ c.more)) (map part_of w)) d.parts
    ∙ both (part_of (run is_no_dot x).0) (part_of (run is_no_dot y).0) (map part_of c.more) (map part_of d.more)
    ∙ ap (ordering_then o) (left_rest c.more (without_first (run is_no_dot x).1) (map part_of d.more) c.rest ∙ right_rest d.more (without_first (run is_no_dot y).1) (parts (without_first (run is_no_dot x).1)) d.rest)

pub turned : (all o : Ordering) (x y w v xs ys : List ℕ) → all ≡ version_order x y → IsCut x w xs → IsCut y v ys → o ≡ part_cmp (part_of w) (part_of v) → all ≡ ordering_then o (version_order xs ys)
turned all o x y w v xs ys e c d f =
    e ∙ turn x y
    ∙ ap (λ (z : Ordering). ordering_then z (version_order (without_first (run is_no_dot x).1) (without_first (run is_no_dot y).1))) (sym (f ∙ ap (λ (z : List ℕ). part_cmp (part_of z) (part_of v)) c.first ∙ ap (λ (z : List ℕ). part_cmp (part_of (run is_no_dot x).0) (part_of z)) d.first))
    ∙ ap (λ (z : List ℕ). ordering_then o (version_order z (without_first (run is_no_dot y).1))) (sym c.after)
    ∙ ap (λ (z : List ℕ). ordering_then o (version_order xs z)) (sym d.after)

pub is_cut : (bs dot w rest : List ℕ) → dot ≡ (run is_no_dot bs).1 → w ≡ take (length bs - length dot) bs → rest ≡ without_first dot → IsCut bs w rest
is_cut bs dot w rest e f g = record { first = f ∙ taken is_no_dot bs dot e; after = g ∙ ap without_first e }

without_short : (bs : List ℕ) → length (without_first bs) ≤ length bs - 1
without_short [] = omega arith
without_short (b ∷ bs) = omega arith

pub cut_short : (bs w rest : List ℕ) → IsCut bs w rest → length rest ≤ length bs - 1
cut_short bs w rest c =
    let a = without_short (run is_no_dot bs).1 in
    let s = run_short is_no_dot bs (run is_no_dot bs).1 refl in
    let e : length rest ≡ length (without_first (run is_no_dot bs).1) = ap (λ (z : List ℕ). length z) c.after in
    omega (arith, a, s, e)

pub none_left : (all : Ordering) (x y : List ℕ) → all ≡ version_order x y → length x ≡ 0 → length y ≡ 0 → Equal ≡ all
unfolding parts_cmp split run
none_left all [] [] e f g = sym e
none_left all (b ∷ bs) y e f g = absurd (omega arith)
none_left all [] (b ∷ bs) e f g = absurd (omega arith)

pub without_none : (bs : List ℕ) → bs ≡ [] → bs ≡ without_first bs
without_none bs e = e ∙ sym (ap without_first e)

pub without_some : (bs rest : List ℕ) (b : ℕ) → bs ≡ b ∷ rest → rest ≡ without_first bs
without_some bs rest b e = sym (ap without_first e)

then_other : (o p : Ordering) → true ≡ is_ne o → ordering_then o p ≡ o
then_other Less p e = refl
then_other Equal p e = cc
then_other Greater p e = refl

then_same : (o p : Ordering) → false ≡ is_ne o → ordering_then o p ≡ p
then_same Less p e = cc
then_same Equal p e = refl
then_same Greater p e = cc

-- parts that differ decide
pub found_other : (all o : Ordering) (x y w v xs ys : List ℕ) → all ≡ version_order x y → IsCut x w xs → IsCut y v ys → o ≡ part_cmp (part_of w) (part_of v) → true ≡ is_ne o → o ≡ all
found_other all o x y w v xs ys e c d f g = sym (turned all o x y w v xs ys e c d f ∙ then_other o (version_order xs ys) g)

-- after equal parts the rest decides
pub found_equal : (all o : Ordering) (x y w v xs ys : List ℕ) → all ≡ version_order x y → IsCut x w xs → IsCut y v ys → o ≡ part_cmp (part_of w) (part_of v) → false ≡ is_ne o → all ≡ version_order xs ys
found_equal all o x y w v xs ys e c d f g = turned all o x y w v xs ys e c d f ∙ then_same o (version_order xs ys) g
