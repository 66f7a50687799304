-- Members that are sorted by name, and the runs of one name among them.
use Rattle.std.proofs.Common.{◌≡◌, ℕ, zero, suc, ◌+◌, ◌<◌, ◌≤◌, Bool, true, false, not, ◌&&◌, List as Seq, [], ◌∷◌, ◌++◌, length, map as over, get_or, take, drop, Less, Equal, Greater, refl, sym, ap, ◌∙◌, subst, append_assoc, append-nil, arith, inl, inr, ◌⊎◌}
use Rattle.std.proofs.lemmas.List.{take_more}
use Rattle.std.specs.Prelude.{bytes_eq, cond, if◌then◌else◌}
use Rattle.std.specs.List.{filter}
use Rattle.std.specs.List.Sorted.{ties, IsSortedBy, IsStableBy}
use Rattle.std.specs.Cmp.Lexicographic.{slice_cmp, nat_list_cmp_total, texts_ties, bytes_decides}
use Rattle.std.specs.Ordering.{nat_cmp, ordering_reverse, is_eq, is_lt}
use Rattle.std.specs.declared.cmp.Ordering.{Ordering}
use Rattle.sequences.proofs.Texts.{is_Less, is_eq-reverse}
use Rattle.json_tree.specs.Json as json
use Rattle.json_tree.specs.Json.{Json, depth, members_depth, members_of}
use Rattle.json_tree.specs.Tree.{json_of}
use Rattle.fml_merge.specs.Layers.{piece_of, pieces, trees_under, IsLeast, AreClimbing, run_length, trees_depth, layers_depth}
use Rattle.fml_merge.specs.declared.sorting.Piece.{Piece}
use Rattle.fml_merge.proofs.Under.{AllNamed}

-- ---- how names compare

abbrev pub by_name : Piece → Piece → Bool
by_name a b = is_lt (slice_cmp nat_cmp a.name.now b.name.now)

tied_names : (a b : Seq ℕ) (o : Ordering) → slice_cmp nat_cmp a b ≡ o → (not (is_lt o) && not (is_lt (ordering_reverse o))) ≡ is_eq o
tied_names a b Less h = refl
tied_names a b Equal h = refl
tied_names a b Greater h = refl

-- pieces that tie have one name
tie_is : (x y : Piece) → ties by_name x y ≡ bytes_eq y.name.now x.name.now
tie_is x y =
    let a = x.name.now in
    let b = y.name.now in
    let back = nat_list_cmp_total.antisymm b a in
    ap (λ o. not (is_lt (slice_cmp nat_cmp a b)) && not (is_lt o)) back ∙ tied_names a b (slice_cmp nat_cmp a b) refl ∙ sym (texts_ties b a ∙ ap is_eq back ∙ is_eq-reverse (slice_cmp nat_cmp a b))

-- ---- the trees of a name

abbrev tree_in : Piece → Json
tree_in p = json_of p.tree.now

under_filtered : (k : Seq ℕ) (x : Piece) (ps : Seq Piece) → x.name.now ≡ k → trees_under k (over piece_of ps) ≡ over tree_in (filter (ties by_name x) ps)
under_filtered k x [] is = refl
under_filtered k x (p ∷ ps) is =
    let tie : ties by_name x p ≡ bytes_eq p.name.now k = tie_is x p ∙ ap (bytes_eq p.name.now) is in
    ap (λ l. if bytes_eq p.name.now k then json_of p.tree.now ∷ l else l) (under_filtered k x ps is)
    ∙ elim (bytes_eq p.name.now k) as (λ b. bytes_eq p.name.now k ≡ b → (if b then json_of p.tree.now ∷ over tree_in (filter (ties by_name x) ps) else over tree_in (filter (ties by_name x) ps)) ≡ over tree_in (filter (ties by_name x) (p ∷ ps))) [
      | true ↦ λ h. sym (ap (λ c. over tree_in (cond c (p ∷ filter (ties by_name x) ps) (filter (ties by_name x) ps))) (tie ∙ h))
      | false ↦ λ h. sym (ap (λ c. over tree_in (cond c (p ∷ filter (ties by_name x) ps) (filter (ties by_name x) ps))) (tie ∙ h))
    ] refl

-- a piece has the name, or none has a tree under it
some_named : (k : Seq ℕ) (ps : Seq Piece) → ((x : Piece) × (x.name.now ≡ k)) ⊎ (trees_under k (over piece_of ps) ≡ [])
some_named k [] = inr refl
some_named k (p ∷ ps) =
    elim (bytes_eq p.name.now k) as (λ b. bytes_eq p.name.now k ≡ b → ((x : Piece) × (x.name.now ≡ k)) ⊎ ((if b then json_of p.tree.now ∷ trees_under k (over piece_of ps) else trees_under k (over piece_of ps)) ≡ [])) [
      | true ↦ λ h. inl (p, (bytes_decides p.name.now k).0 h)
      | false ↦ λ h. some_named k ps
    ] refl

pub stable_under : (ps qs : Seq Piece) → IsStableBy by_name ps qs → (k : Seq ℕ) → trees_under k (over piece_of qs) ≡ trees_under k (over piece_of ps)
stable_under ps qs stable k = first (some_named k ps)
  where
    by_tie : (x : Piece) → x.name.now ≡ k → trees_under k (over piece_of qs) ≡ trees_under k (over piece_of ps)
    by_tie x is = under_filtered k x qs is ∙ ap (over tree_in) (stable x) ∙ sym (under_filtered k x ps is)

    second : trees_under k (over piece_of ps) ≡ [] → ((x : Piece) × (x.name.now ≡ k)) ⊎ (trees_under k (over piece_of qs) ≡ []) → trees_under k (over piece_of qs) ≡ trees_under k (over piece_of ps)
    second none (inl x) = by_tie x.0 x.1
    second none (inr n) = n ∙ sym none

    first : ((x : Piece) × (x.name.now ≡ k)) ⊎ (trees_under k (over piece_of ps) ≡ []) → trees_under k (over piece_of qs) ≡ trees_under k (over piece_of ps)
    first (inl x) = by_tie x.0 x.1
    first (inr n) = second n (some_named k qs)

-- ---- names that never fall

-- a is not below b, which is not below c
not_below : (a b c : Seq ℕ) → is_lt (slice_cmp nat_cmp a b) ≡ false → is_lt (slice_cmp nat_cmp b c) ≡ false → is_lt (slice_cmp nat_cmp a c) ≡ false
not_below a b c h i = by_order (slice_cmp nat_cmp b a) refl
  where
    by_order : (o : Ordering) → slice_cmp nat_cmp b a ≡ o → is_lt (slice_cmp nat_cmp a c) ≡ false
    by_order Less less =
        elim (is_lt (slice_cmp nat_cmp a c)) as (λ d. is_lt (slice_cmp nat_cmp a c) ≡ d → d ≡ false) [
          | true ↦ λ under. (let through : true ≡ false = sym (ap is_lt (nat_list_cmp_total.trans b a c less (is_Less _ under))) ∙ i in absurd cc)
          | false ↦ λ n. refl
        ] refl
    by_order Equal tied = subst (λ n. is_lt (slice_cmp nat_cmp n c) ≡ false) ((bytes_decides b a).0 (texts_ties b a ∙ ap is_eq tied)) i
    by_order Greater more = let wrong : true ≡ false = sym (ap is_lt (nat_list_cmp_total.antisymm a b ∙ ap ordering_reverse more)) ∙ h in absurd cc

least_through : (a b : Seq ℕ) (ps : Seq (Seq ℕ × Json)) → is_lt (slice_cmp nat_cmp b a) ≡ false → IsLeast b ps → IsLeast a ps
least_through a b [] h least = tt
least_through a b (p ∷ ps) h least = (not_below p.0 b a least.0 h, least_through a b ps h least.1)

next_place : (k : ℕ) → suc k + 1 ≡ suc (k + 1)
next_place k = omega arith

pub climbing : (ps : Seq Piece) → IsSortedBy by_name ps → AreClimbing (over piece_of ps)
climbing [] sorted = tt
climbing (p ∷ []) sorted = (tt, tt)
climbing (p ∷ q ∷ ps) sorted =
    let rest = climbing (q ∷ ps) (λ k d low high. subst (λ n. by_name (get_or (p ∷ q ∷ ps) n d) (get_or (p ∷ q ∷ ps) (suc k) d) ≡ false) (next_place k) (sorted (suc k) d (omega arith) (omega (arith, high)))) in
    let next : is_lt (slice_cmp nat_cmp q.name.now p.name.now) ≡ false = sorted 0 p (omega arith) (omega arith) in
    ((next, least_through p.name.now q.name.now (over piece_of ps) next rest.0), rest)

pub climbing_drop : (n : ℕ) (ps : Seq (Seq ℕ × Json)) → AreClimbing ps → AreClimbing (drop n ps)
climbing_drop zero ps climb = climb
climbing_drop (suc n) [] climb = tt
climbing_drop (suc n) (p ∷ ps) climb = climbing_drop n ps climb.1

-- ---- a run of one name

pub run_named : (k : Seq ℕ) (ps : Seq (Seq ℕ × Json)) → AllNamed k (take (run_length k ps) ps)
run_named k [] = tt
run_named k (p ∷ ps) =
    elim (bytes_eq p.0 k) as (λ b. bytes_eq p.0 k ≡ b → AllNamed k (take (if b then suc (run_length k ps) else 0) (p ∷ ps))) [
      | true ↦ λ h. ((bytes_decides p.0 k).0 h, run_named k ps)
      | false ↦ λ h. tt
    ] refl

above_least : (k a : Seq ℕ) (ps : Seq (Seq ℕ × Json)) → slice_cmp nat_cmp k a ≡ Less → IsLeast a ps → json.IsBelow k (members_of ps)
above_least k a [] less least = tt
above_least k a (p ∷ ps) less least = (by_order (slice_cmp nat_cmp a p.0) refl, above_least k a ps less least.1)
  where
    by_order : (o : Ordering) → slice_cmp nat_cmp a p.0 ≡ o → slice_cmp nat_cmp k p.0 ≡ Less
    by_order Less h = nat_list_cmp_total.trans k a p.0 less h
    by_order Equal h = subst (λ n. slice_cmp nat_cmp k n ≡ Less) ((bytes_decides a p.0).0 (texts_ties a p.0 ∙ ap is_eq h)) less
    by_order Greater h = let wrong : true ≡ false = sym (ap is_lt (nat_list_cmp_total.antisymm p.0 a ∙ ap ordering_reverse h)) ∙ least.0 in absurd cc

run_past : (k : Seq ℕ) (ps : Seq (Seq ℕ × Json)) → IsLeast k ps → AreClimbing ps → json.IsBelow k (members_of (drop (run_length k ps) ps))
run_past k [] least climb = tt
run_past k (p ∷ ps) least climb =
    elim (bytes_eq p.0 k) as (λ b. bytes_eq p.0 k ≡ b → json.IsBelow k (members_of (drop (if b then suc (run_length k ps) else 0) (p ∷ ps)))) [
      | true ↦ λ h. run_past k ps least.1 climb.1
      | false ↦ λ h. (let less = above (slice_cmp nat_cmp p.0 k) refl (sym (texts_ties p.0 k) ∙ h) least.0 in (less, above_least k p.0 ps less climb.0))
    ] refl
  where
    above : (o : Ordering) → slice_cmp nat_cmp p.0 k ≡ o → is_eq o ≡ false → is_lt o ≡ false → slice_cmp nat_cmp k p.0 ≡ Less
    above Less h e l = absurd cc
    above Equal h e l = absurd cc
    above Greater h e l = nat_list_cmp_total.antisymm k p.0 ∙ ap ordering_reverse h

itself : (k : Seq ℕ) → is_lt (slice_cmp nat_cmp k k) ≡ false
itself k = one (slice_cmp nat_cmp k k) (sym (texts_ties k k) ∙ (bytes_decides k k).1 refl)
  where
    one : (o : Ordering) → is_eq o ≡ true → is_lt o ≡ false
    one Less e = absurd cc
    one Equal e = refl
    one Greater e = refl

-- what follows the run of the first name is above it
pub first_run_past : (k : Seq ℕ) (p : Seq ℕ × Json) (ps : Seq (Seq ℕ × Json)) → k ≡ p.0 → AreClimbing (p ∷ ps) → json.IsBelow k (members_of (drop (run_length k (p ∷ ps)) (p ∷ ps)))
first_run_past k p ps is climb = subst (λ n. json.IsBelow n (members_of (drop (run_length n (p ∷ ps)) (p ∷ ps)))) (sym is) (run_past p.0 (p ∷ ps) (itself p.0, climb.0) climb)

pub run_most : (k : Seq ℕ) (ps : Seq (Seq ℕ × Json)) → run_length k ps ≤ length ps
run_most k [] = omega arith
run_most k (p ∷ ps) = elim (bytes_eq p.0 k) as (λ b. (if b then suc (run_length k ps) else 0) ≤ suc (length ps)) [ true ↦ omega (arith, run_most k ps) | false ↦ omega arith ]

pub run_some : (k : Seq ℕ) (p : Seq ℕ × Json) (ps : Seq (Seq ℕ × Json)) → k ≡ p.0 → 1 ≤ run_length k (p ∷ ps)
run_some k p ps is = let same : bytes_eq p.0 k ≡ true = (bytes_decides p.0 k).1 (sym is) in subst (λ b. 1 ≤ (if b then suc (run_length k ps) else 0)) (sym same) (omega arith)

-- ---- depths

pub deep_drop : (n : ℕ) (ps : Seq (Seq ℕ × Json)) → members_depth (members_of (drop n ps)) ≤ members_depth (members_of ps)
deep_drop zero ps = omega arith
deep_drop (suc n) [] = omega arith
deep_drop (suc n) (p ∷ ps) = omega (arith, deep_drop n ps)

pub deep_take : (n : ℕ) (ps : Seq (Seq ℕ × Json)) → trees_depth (over (λ p. p.1) (take n ps)) ≤ members_depth (members_of ps)
deep_take zero ps = omega arith
deep_take (suc n) [] = omega arith
deep_take (suc n) (p ∷ ps) = omega (arith, deep_take n ps)

under_deep : (k : Seq ℕ) (ps : Seq (Seq ℕ × Json)) → trees_depth (trees_under k ps) ≤ members_depth (members_of ps)
under_deep k [] = omega arith
under_deep k (p ∷ ps) = elim (bytes_eq p.0 k) as (λ b. trees_depth (if b then p.1 ∷ trees_under k ps else trees_under k ps) ≤ members_depth (members_of (p ∷ ps))) [ true ↦ omega (arith, under_deep k ps) | false ↦ omega (arith, under_deep k ps) ]

all_deep : (n : ℕ) (ps : Seq (Seq ℕ × Json)) → ((k : Seq ℕ) → trees_depth (trees_under k ps) ≤ n) → members_depth (members_of ps) ≤ n
all_deep n [] most = omega arith
all_deep n (p ∷ ps) most =
    let here : depth p.1 ≤ n = first (bytes_eq p.0 p.0) ((bytes_decides p.0 p.0).1 refl) (most p.0) in
    let rest = all_deep n ps (λ k. later k (bytes_eq p.0 k) (most k)) in
    omega (arith, here, rest)
  where
    first : (b : Bool) → b ≡ true → trees_depth (if b then p.1 ∷ trees_under p.0 ps else trees_under p.0 ps) ≤ n → depth p.1 ≤ n
    first true is h = omega (arith, h)
    first false is h = absurd cc

    later : (k : Seq ℕ) (b : Bool) → trees_depth (if b then p.1 ∷ trees_under k ps else trees_under k ps) ≤ n → trees_depth (trees_under k ps) ≤ n
    later k true h = omega (arith, h)
    later k false h = h

joined_deep : (ps qs : Seq (Seq ℕ × Json)) (n : ℕ) → members_depth (members_of ps) ≤ n → members_depth (members_of qs) ≤ n → members_depth (members_of (ps ++ qs)) ≤ n
joined_deep [] qs n h i = i
joined_deep (p ∷ ps) qs n h i = omega (arith, h, joined_deep ps qs n (omega (arith, h)) i)

pieces_deep : {T : Type 0} (pairs : T → Seq (Seq ℕ × Json)) (ls : Seq T) → members_depth (members_of (pieces (over pairs ls))) ≤ layers_depth (over (λ l. members_of (pairs l)) ls)
pieces_deep pairs [] = omega arith
pieces_deep pairs (l ∷ ls) = joined_deep (pairs l) (pieces (over pairs ls)) _ (omega arith) (omega (arith, pieces_deep pairs ls))

-- sorted members are no deeper than the layers that they come from
pub sorted_deep : {T : Type 0} (pairs : T → Seq (Seq ℕ × Json)) (ls : Seq T) (ps : Seq (Seq ℕ × Json)) → ((k : Seq ℕ) → trees_under k ps ≡ trees_under k (pieces (over pairs ls))) → members_depth (members_of ps) ≤ layers_depth (over (λ l. members_of (pairs l)) ls)
sorted_deep pairs ls ps same =
    all_deep _ ps (λ k. (let less = under_deep k (pieces (over pairs ls)) in let all = pieces_deep pairs ls in let is = ap trees_depth (same k) in omega (arith, less, all, is)))

-- ---- lists of the program

pub drop-over : {A B : Type 0} (f : A → B) (n : ℕ) (xs : Seq A) → over f (drop n xs) ≡ drop n (over f xs)
drop-over f zero xs = refl
drop-over f (suc n) [] = refl
drop-over f (suc n) (x ∷ xs) = drop-over f n xs

pub take-over : {A B : Type 0} (f : A → B) (n : ℕ) (xs : Seq A) → over f (take n xs) ≡ take n (over f xs)
take-over f zero xs = refl
take-over f (suc n) [] = refl
take-over f (suc n) (x ∷ xs) = ap (λ l. f x ∷ l) (take-over f n xs)

pieces_join : {T : Type 0} (pairs : T → Seq (Seq ℕ × Json)) (ls : Seq T) (l : T) → pieces (over pairs (ls ++ l ∷ [])) ≡ pieces (over pairs ls) ++ pairs l
pieces_join pairs [] l = append-nil (pairs l)
pieces_join pairs (m ∷ ls) l = ap (λ n. pairs m ++ n) (pieces_join pairs ls l) ∙ sym (append_assoc (pairs m) (pieces (over pairs ls)) (pairs l))

-- the members of one layer more
pub pieces_more : {T : Type 0} (pairs : T → Seq (Seq ℕ × Json)) (ls : Seq T) (i : ℕ) (l : T) → i < length ls → l ≡ get_or ls i l → pieces (over pairs (take i ls)) ++ pairs l ≡ pieces (over pairs (take (i + 1) ls))
pieces_more pairs ls i l h is = sym (pieces_join pairs (take i ls) l) ∙ ap (λ m. pieces (over pairs (take i ls ++ m ∷ []))) is ∙ sym (ap (λ ms. pieces (over pairs ms)) (take_more ls i l h))

pub over-over : {A B C : Type 0} (f : A → B) (g : B → C) (xs : Seq A) → over g (over f xs) ≡ over (λ x. g (f x)) xs
over-over f g [] = refl
over-over f g (x ∷ xs) = ap (λ l. g (f x) ∷ l) (over-over f g xs)
