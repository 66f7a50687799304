-- The places of a tree, by those of the trees below it.
use Rattle.std.proofs.Common.{◌≡◌, ℕ, zero, suc, ◌+◌, ◌<◌, List, [], ◌∷◌, ◌++◌, length, get_or, drop, Some, Result, Ok, Err, IfOk, OnOk, refl, sym, ap, ap₂, ◌∙◌, subst}
use Rattle.std.specs.Prelude.{slice_get}
use Rattle.std.specs.Borrow.{Bor}
use Rattle.jexl_parser.specs.declared.node.Node.{Node}
use Rattle.jexl_parser.specs.Tree as trees
use Rattle.jexl_parser.specs.Tree.{Tree}
use Rattle.jexl_parser.specs.View.{view, views, view_pairs}
use Rattle.jexl_eval.specs.declared.places.Places.{Places}
use Rattle.jexl_eval.specs.Places.{after, trees_of, Extends, Fits, AllFit, PairsFit, HasPlaces, HasPlacesBelow, HaveTwoPlaces, HaveAllPlaces, HavePairPlaces}
use Rattle.jexl_eval.proofs.Walking.{drop_next}

pub extends_on : (ps qs rs : List Tree) → Extends ps qs → Extends qs rs → Extends ps rs
extends_on ps qs rs h g k t e = g k t (h k t e)

get_before : (ps : List Tree) (more : List Tree) (k : ℕ) (t : Tree) → slice_get ps k ≡ Some t → slice_get (ps ++ more) k ≡ Some t
get_before [] more k t h = absurd cc
get_before (p ∷ ps) more zero t h = h
get_before (p ∷ ps) more (suc k) t h = get_before ps more k t h

get_last : (ps : List Tree) (t : Tree) → slice_get (ps ++ (t ∷ [])) (length ps) ≡ Some t
get_last [] t = refl
get_last (p ∷ ps) t = get_last ps t

-- one more part, and its place
more_parts : (ps qs : List Tree) (t : Tree) → qs ≡ ps ++ (t ∷ []) → Extends ps qs
more_parts ps qs t e k u h = subst (λ l. slice_get l k ≡ Some u) (sym e) (get_before ps (t ∷ []) k u h)

last_part : (ps qs : List Tree) (t : Tree) (k : ℕ) → qs ≡ ps ++ (t ∷ []) → k ≡ length ps → slice_get qs k ≡ Some t
last_part ps qs t k e at = ap₂ slice_get e at ∙ get_last ps t

one_more_part : (ns : List (Bor Node)) (n : Bor Node) → trees_of (ns ++ (n ∷ [])) ≡ trees_of ns ++ (view n.now ∷ [])
one_more_part [] n = refl
one_more_part (m ∷ ms) n = ap (λ ts. view m.now ∷ ts) (one_more_part ms n)

tree_count : (ns : List (Bor Node)) → length (trees_of ns) ≡ length ns
tree_count [] = refl
tree_count (m ∷ ms) = ap suc (tree_count ms)

pub nodes_more : (ns new : List (Bor Node)) (n : Bor Node) → new ≡ ns ++ (n ∷ []) → Extends (trees_of ns) (trees_of new)
nodes_more ns new n e = more_parts (trees_of ns) (trees_of new) (view n.now) (ap trees_of e ∙ one_more_part ns n)

pub last_node : (ns new : List (Bor Node)) (n : Bor Node) (k : ℕ) → new ≡ ns ++ (n ∷ []) → k ≡ length ns → slice_get (trees_of new) k ≡ Some (view n.now)
last_node ns new n k e at = last_part (trees_of ns) (trees_of new) (view n.now) k (ap trees_of e ∙ one_more_part ns n) (at ∙ sym (tree_count ns))

-- what holds however a call ends
pub on_ok : {E : Type 0} {P : Type 0} (r : Result Places E) → P → OnOk r P
on_ok (Ok p) h = h
on_ok (Err e) h = tt

pub grows_on : {E : Type 0} (ps qs us : List Tree) (r : Result Places E) → Extends ps qs → OnOk r (Extends qs us) → OnOk r (Extends ps us)
grows_on ps qs us (Ok p) h g = extends_on ps qs us h g
grows_on ps qs us (Err e) h g = tt

-- trees, from the last one on
pub all_more : (ps qs : List Tree) (ns : List Node) (i j : ℕ) (n : Node) (rest p : Places) → j ≡ i + 1 → i < length ns → n ≡ get_or ns i n → Extends ps qs → HaveAllPlaces ps (drop j ns) rest → HasPlaces qs (view n) p → after p ≡ rest
    → HaveAllPlaces qs (drop i ns) p
all_more ps qs ns i j n rest p at b is grows h g e us x =
    let others = subst (λ k. AllFit us (views (drop k ns)) rest) at (h us (extends_on ps qs us grows x)) in
    subst (λ l. AllFit us (views l) p) (sym (drop_next ns i n b is)) (g us x, subst (AllFit us (views (drop (i + 1) ns))) (sym e) others)

pub pairs_more : (ps qs : List Tree) (ms : List (List ℕ × Node)) (i j : ℕ) (m : List ℕ × Node) (rest p : Places) → j ≡ i + 1 → i < length ms → m ≡ get_or ms i m → Extends ps qs → HavePairPlaces ps (drop j ms) rest → HasPlaces qs (view m.1) p
    → after p ≡ rest → HavePairPlaces qs (drop i ms) p
pairs_more ps qs ms i j m rest p at b is grows h g e us x =
    let others = subst (λ k. PairsFit us (view_pairs (drop k ms)) rest) at (h us (extends_on ps qs us grows x)) in
    subst (λ l. PairsFit us (view_pairs l) p) (sym (drop_next ms i m b is)) (g us x, subst (PairsFit us (view_pairs (drop (i + 1) ms))) (sym e) others)

-- a tree before others, which were first
module _ (ps qs : List Tree) (a : Tree) (rest : Places) where
  pub two_more : (b : Tree) (p : Places) → HasPlaces ps b rest → Extends ps qs → HasPlaces qs a p → after p ≡ rest → HaveTwoPlaces qs a b p
  two_more b p h grows g e = λ us x. (g us x, subst (Fits us b) (sym e) (h us (extends_on ps qs us grows x)))

  pub two_placed : {E : Type 0} (b : Tree) (r : Result Places E) → HasPlaces ps b rest → OnOk r (Extends ps qs) → IfOk r (λ p. HasPlaces qs a p) → IfOk r (λ p. after p ≡ rest) → IfOk r (λ p. HaveTwoPlaces qs a b p)
  two_placed b (Ok p) h grows g e = two_more b p h grows g e
  two_placed b (Err f) h grows g e = tt

  pub choose_placed : {E : Type 0} (b c : Tree) (r : Result Places E) → HaveTwoPlaces ps b c rest → OnOk r (Extends ps qs) → IfOk r (λ p. HasPlaces qs a p) → IfOk r (λ p. after p ≡ rest)
      → IfOk r (λ p. HasPlacesBelow qs (trees.Choose a b c) p)
  choose_placed b c (Ok p) h grows g e = λ us x. let others = h us (extends_on ps qs us grows x) in (g us x, subst (Fits us b) (sym e) others.0, subst (λ r. Fits us c (after r)) (sym e) others.1)
  choose_placed b c (Err f) h grows g e = tt

  pub transform_placed : {E : Type 0} (n : List ℕ) (ns : List Node) (r : Result Places E) → HaveAllPlaces ps ns rest → OnOk r (Extends ps qs) → IfOk r (λ p. HasPlaces qs a p) → IfOk r (λ p. after p ≡ rest)
      → IfOk r (λ p. HasPlacesBelow qs (trees.Transform a n (views ns)) p)
  transform_placed n ns (Ok p) h grows g e = λ us x. (g us x, subst (AllFit us (views ns)) (sym e) (h us (extends_on ps qs us grows x)))
  transform_placed n ns (Err f) h grows g e = tt

-- the tree at a place of a list
module _ (parts : List Tree) where
  pub fits_next : (ns : List Node) (i : ℕ) (n : Node) (p : Places) → AllFit parts (views (drop i ns)) p → i < length ns → n ≡ get_or ns i n → Fits parts (view n) p × AllFit parts (views (drop (i + 1) ns)) (after p)
  fits_next ns i n p h b is = subst (λ l. AllFit parts (views l) p) (drop_next ns i n b is) h

  pub pair_fits_next : (ms : List (List ℕ × Node)) (i : ℕ) (m : List ℕ × Node) (p : Places) → PairsFit parts (view_pairs (drop i ms)) p → i < length ms → m ≡ get_or ms i m → Fits parts (view m.1) p × PairsFit parts (view_pairs (drop (i + 1) ms)) (after p)
  pair_fits_next ms i m p h b is = subst (λ l. PairsFit parts (view_pairs l) p) (drop_next ms i m b is) h
