-- A turn of the walk over sorted pieces: the run of the first name, and what follows it.
use Rattle.std.proofs.Common.{◌≡◌, ℕ, zero, suc, ◌+◌, ◌-◌, ◌<◌, ◌≤◌, List as Seq, [], ◌∷◌, ◌++◌, length, map as over, get_or, take, drop, Bor, Option as Maybe, refl, sym, ap, ap₂, ◌∙◌, subst, arith}
use Rattle.std.proofs.lemmas.List.{length-map, take_all}
use Rattle.json_tree.specs.Json as json
use Rattle.json_tree.specs.Json.{Json, members_depth, members_of}
use Rattle.json_tree.specs.Tree.{json_of}
use Rattle.fml_types.specs.Named.{AreRising}
use Rattle.fml_types.specs.Shape.{Shape}
use Rattle.fml_types.specs.declared.manifest.TypeTable.{TypeTable}
use Rattle.fml_value.specs.Typed.{TypedValue}
use Rattle.fml_merge.specs.Layers.{layers_laid, run_laid, piece_of, pieces, trees_under, run_length, AreClimbing, trees_depth}
use Rattle.fml_merge.specs.Laying.{layers_of}
use Rattle.fml_merge.specs.Merging.{merged_in, left_in, lower, upper, named, unnamed}
use Rattle.fml_merge.specs.Overlay.{members_laid}
use Rattle.fml_merge.specs.declared.merging.Merge.{Merge}
use Rattle.fml_merge.specs.declared.sorting.Piece.{Piece}
use Rattle.fml_merge.proofs.Layered.{first_rest, run_turn}
use Rattle.fml_merge.proofs.Merge.{laid_rising, left_rising}
use Rattle.fml_merge.proofs.Sorted.{climbing_drop, deep_drop, deep_take, drop-over, over-over, run_most, run_some, take-over}
use Rattle.fml_merge.proofs.Under.{layers_joined, same_laid}

abbrev pub tree_in : Piece → Json
tree_in p = json_of p.tree.now

drop_none : {A : Type 0} (xs : Seq A) (n : ℕ) → xs ≡ [] → drop n xs ≡ xs
drop_none [] zero is = refl
drop_none [] (suc n) is = refl
drop_none (x ∷ xs) n is = absurd cc

drop_sum : {A : Type 0} (a b : ℕ) (xs : Seq A) → drop (a + b) xs ≡ drop b (drop a xs)
drop_sum zero b xs = let same : zero + b ≡ b = omega arith in ap (λ n. drop n xs) same
drop_sum {A} (suc a) b [] = let same : suc a + b ≡ suc (a + b) = omega arith in let empty : Seq A = [] in ap (λ n. drop n empty) same ∙ sym (drop_none empty b refl)
drop_sum (suc a) b (x ∷ xs) = let same : suc a + b ≡ suc (a + b) = omega arith in ap (λ n. drop n (x ∷ xs)) same ∙ drop_sum a b xs

long_drop : {A : Type 0} (n : ℕ) (xs : Seq A) → n ≤ length xs → n + length (drop n xs) ≡ length xs
long_drop zero xs h = omega arith
long_drop (suc n) [] h = absurd (omega (arith, h))
long_drop (suc n) (x ∷ xs) h = omega (arith, long_drop n xs (omega (arith, h)))

drop_short : {A : Type 0} (n : ℕ) (xs : Seq A) → length (drop n xs) ≤ length xs - n
drop_short zero xs = omega arith
drop_short (suc n) [] = omega arith
drop_short (suc n) (x ∷ xs) = omega (arith, drop_short n xs)

-- a slice to the end
pub rest_whole : {A : Type 0} (n : ℕ) (xs : Seq A) → take (length xs - n) (drop n xs) ≡ drop n xs
rest_whole n xs = take_all (length xs - n) (drop n xs) (drop_short n xs)

module _ (ps : Seq Piece) (start : ℕ) (left : Seq Piece) (x : Piece) (key : Seq ℕ) (count : ℕ) (left_is : left ≡ drop start ps) (h : start < length ps) (first_is : x ≡ get_or left 0 x) (name : key ≡ x.name.now) (count_is : count ≡ run_length key (over piece_of left)) where
  is : x ≡ get_or (drop start ps) 0 x
  is = first_is ∙ ap (λ l. get_or l 0 x) left_is

  counted : count ≡ run_length key (over piece_of (drop start ps))
  counted = count_is ∙ ap (λ l. run_length key (over piece_of l)) left_is

  pub turn_within : start + count ≤ length ps
  turn_within = omega (arith, counted, run_most key (over piece_of (drop start ps)), length-map (drop start ps) piece_of, long_drop start ps (omega (arith, h)))

  some_left : 0 < length (drop start ps)
  some_left = omega (arith, h, long_drop start ps (omega (arith, h)))

  head_is : over piece_of (drop start ps) ≡ piece_of x ∷ over piece_of (drop 1 (drop start ps))
  head_is = first_rest piece_of (drop start ps) x some_left is

  pub turn_some : 1 ≤ count
  turn_some = subst (λ n. 1 ≤ n) (sym counted) (subst (λ l. 1 ≤ run_length key l) (sym head_is) (run_some key (piece_of x) (over piece_of (drop 1 (drop start ps))) name))

  pub turn_most : count ≤ length (drop start ps)
  turn_most = omega (arith, counted, run_most key (over piece_of (drop start ps)), length-map (drop start ps) piece_of)

  later_is : over piece_of (drop (start + count) ps) ≡ drop (run_length key (over piece_of (drop start ps))) (over piece_of (drop start ps))
  later_is = ap (over piece_of) (drop_sum start count ps) ∙ drop-over piece_of count (drop start ps) ∙ ap (λ n. drop n (over piece_of (drop start ps))) counted

  run_trees : (run : Seq Piece) → run ≡ take count (drop start ps) → over tree_in run ≡ over (λ q. q.1) (take (run_length key (over piece_of (drop start ps))) (over piece_of (drop start ps)))
  run_trees run taken =
      ap (over tree_in) taken ∙ sym (over-over piece_of (λ q. q.1) (take count (drop start ps))) ∙ ap (over (λ q. q.1)) (take-over piece_of count (drop start ps) ∙ ap (λ n. take n (over piece_of (drop start ps))) counted)

  pub turn_deep : (run : Seq Piece) (most : ℕ) → run ≡ take count (drop start ps) → members_depth (members_of (over piece_of (drop start ps))) ≤ most → trees_depth (over tree_in run) ≤ most
  turn_deep run most taken within =
      let same = ap trees_depth (run_trees run taken) in
      omega (arith, same, within, deep_take (run_length key (over piece_of (drop start ps))) (over piece_of (drop start ps)))

  pub turn_climbing : AreClimbing (over piece_of (drop start ps)) → AreClimbing (over piece_of (drop (start + count) ps))
  turn_climbing climb = subst AreClimbing (sym later_is) (climbing_drop (run_length key (over piece_of (drop start ps))) (over piece_of (drop start ps)) climb)

  pub turn_depth : (most : ℕ) → members_depth (members_of (over piece_of (drop start ps))) ≤ most → members_depth (members_of (over piece_of (drop (start + count) ps))) ≤ most
  turn_depth most within =
      let same = ap (λ l. members_depth (members_of l)) later_is in
      omega (arith, same, within, deep_drop (run_length key (over piece_of (drop start ps))) (over piece_of (drop start ps)))

  pub turn_same : (zeros : Shape → TypedValue) (types : TypeTable) (type_of : Seq ℕ → Maybe Shape) (run : Seq Piece) (front grown es after all : Seq (Seq ℕ × TypedValue)) → run ≡ take count (drop start ps)
      → AreClimbing (over piece_of (drop start ps)) → AreRising es
      → grown ≡ (front ++ lower key es) ++ run_laid zeros types type_of key (over tree_in run) (named key (upper key es)) → after ≡ unnamed key (upper key es)
      → front ++ members_laid zeros types type_of es (members_of (over piece_of (drop start ps))) ≡ all
      → grown ++ members_laid zeros types type_of after (members_of (over piece_of (drop (start + count) ps))) ≡ all
  turn_same zeros types type_of run front grown es after all taken climb rising grows goes so_far =
      run_turn zeros types type_of key (piece_of x) (over piece_of (drop 1 (drop start ps))) (over piece_of (drop start ps)) (over piece_of (drop (start + count) ps)) front grown es after (over tree_in run) all
      head_is name climb rising (run_trees run taken) later_is grows goes so_far

-- what is left of the entries rises
pub after_rising : (zeros : Shape → TypedValue) (types : TypeTable) (type_of : Seq ℕ → Maybe Shape) (key : Seq ℕ) (es after : Seq (Seq ℕ × TypedValue)) → AreRising es → after ≡ unnamed key (upper key es) → AreRising after
after_rising zeros types type_of key es after rising goes = subst AreRising (sym goes) (left_rising zeros types type_of key es rising)

module _ (zeros : Shape → TypedValue) (types : TypeTable) (type_of : Seq ℕ → Maybe Shape) where
  pub layers_rising : (es : Seq (Seq ℕ × TypedValue)) (mss : Seq json.Members) → AreRising es → AreRising (layers_laid zeros types type_of es mss)
  layers_rising es [] rising = rising
  layers_rising es (ms ∷ mss) rising = layers_rising (members_laid zeros types type_of es ms) mss (laid_rising zeros types type_of es ms rising)

  -- sorted pieces leave what the layers leave
  pub sorted_laid : {T : Type 0} (pairs : T → Seq (Seq ℕ × Json)) (ls : Seq T) (es : Seq (Seq ℕ × TypedValue)) (qs : Seq (Seq ℕ × Json)) → AreRising es → ((k : Seq ℕ) → trees_under k qs ≡ trees_under k (pieces (over pairs ls)))
      → members_laid zeros types type_of es (members_of qs) ≡ layers_laid zeros types type_of es (over (λ l. members_of (pairs l)) ls)
  sorted_laid pairs ls es qs rising same = same_laid zeros types type_of es qs (pieces (over pairs ls)) rising same ∙ layers_joined zeros types type_of pairs ls es

  -- sorted pieces that are merged into entries of which all are left
  pub merged_layers : (layers : Seq (Bor (Seq (Seq ℕ × Json)))) (base : Seq (Seq ℕ × TypedValue)) (qs : Seq (Seq ℕ × Json)) (before after : Merge) → AreRising base
      → ((k : Seq ℕ) → trees_under k qs ≡ trees_under k (pieces (over (λ (m : Bor (Seq (Seq ℕ × Json))). m.now) layers))) → merged_in before ≡ [] → left_in before ≡ base
      → merged_in after ++ left_in after ≡ merged_in before ++ members_laid zeros types type_of (left_in before) (members_of qs)
      → merged_in after ++ left_in after ≡ layers_laid zeros types type_of base (layers_of layers)
  merged_layers layers base qs before after rising same none all merges =
      merges ∙ ap₂ (λ f es. f ++ members_laid zeros types type_of es (members_of qs)) none all ∙ sorted_laid (λ (m : Bor (Seq (Seq ℕ × Json))). m.now) layers base qs rising same
