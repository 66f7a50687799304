-- Walks over items and members that end at the first one refused.
use Rattle.std.proofs.Common.{◌≡◌, ℕ, suc, ◌+◌, ◌<◌, ◌≤◌, Bool, true, false, ◌&&◌, List, ◌∷◌, length, map, get_or, drop, sym, ap, ◌∙◌, add-one, drop-cons}
use Rattle.std.proofs.lemmas.List.{drop_all}
use Rattle.json_tree.specs.Json.{Json, Items, no_items, item, Members, no_members, member, items_of, members_of}
use Rattle.json_tree.specs.Tree.{json_of, member_of}
use Rattle.json_tree.specs.declared.tree.Tree.{Tree}

drop_next : {A : Type 0} (xs : List A) (i : ℕ) (x : A) → i < length xs → x ≡ get_or xs i x → drop i xs ≡ x ∷ drop (i + 1) xs
drop_next xs i x h is = drop-cons xs i x h ∙ ap (λ y. y ∷ drop (suc i) xs) (sym is) ∙ ap (λ n. x ∷ drop n xs) (sym (add-one i))

-- what is asked of the items of these trees
abbrev pub of_trees : (Items → Bool) → List Tree → Bool
of_trees f ts = f (items_of (map json_of ts))

-- what is asked of the members of these pairs
abbrev pub of_pairs : (Members → Bool) → List (List ℕ × Tree) → Bool
of_pairs f ps = f (members_of (map member_of ps))

module _ (f : Items → Bool) (p : Json → Bool) (turn : (x : Json) (xs : Items) → f (item x xs) ≡ (p x && f xs)) where
  tree_turn : (ts : List Tree) (i : ℕ) (t : Tree) (b : Bool) → i < length ts → t ≡ get_or ts i t → of_trees f ts ≡ of_trees f (drop i ts) → p (json_of t) ≡ b
      → of_trees f ts ≡ (b && of_trees f (drop (i + 1) ts))
  tree_turn ts i t b h is before e =
      before ∙ ap (of_trees f) (drop_next ts i t h is) ∙ turn (json_of t) (items_of (map json_of (drop (i + 1) ts))) ∙ ap (λ c. c && of_trees f (drop (i + 1) ts)) e

  pub tree_refused : (ts : List Tree) (xs : List Json) (i : ℕ) (t : Tree) → map json_of ts ≡ xs → i < length ts → t ≡ get_or ts i t → of_trees f ts ≡ of_trees f (drop i ts) → p (json_of t) ≡ false
      → false ≡ f (items_of xs)
  tree_refused ts xs i t same h is before e = sym (tree_turn ts i t false h is before e) ∙ ap (λ ys. f (items_of ys)) same

  pub tree_passed : (ts : List Tree) (i : ℕ) (t : Tree) → i < length ts → t ≡ get_or ts i t → of_trees f ts ≡ of_trees f (drop i ts) → p (json_of t) ≡ true
      → of_trees f ts ≡ of_trees f (drop (i + 1) ts)
  tree_passed ts i t h is before e = tree_turn ts i t true h is before e

  pub trees_end : (ts : List Tree) (xs : List Json) (i : ℕ) → map json_of ts ≡ xs → length ts ≤ i → of_trees f ts ≡ of_trees f (drop i ts) → f no_items ≡ true → true ≡ f (items_of xs)
  trees_end ts xs i same h before none = sym (before ∙ ap (of_trees f) (drop_all i ts h) ∙ none) ∙ ap (λ ys. f (items_of ys)) same

module _ (f : Members → Bool) (p : List ℕ → Json → Bool) (turn : (k : List ℕ) (x : Json) (ms : Members) → f (member k x ms) ≡ (p k x && f ms)) where
  pair_turn : (ps : List (List ℕ × Tree)) (i : ℕ) (m : List ℕ × Tree) (b : Bool) → i < length ps → m ≡ get_or ps i m → of_pairs f ps ≡ of_pairs f (drop i ps) → p m.0 (json_of m.1) ≡ b
      → of_pairs f ps ≡ (b && of_pairs f (drop (i + 1) ps))
  pair_turn ps i m b h is before e =
      before ∙ ap (of_pairs f) (drop_next ps i m h is) ∙ turn m.0 (json_of m.1) (members_of (map member_of (drop (i + 1) ps))) ∙ ap (λ c. c && of_pairs f (drop (i + 1) ps)) e

  pub pair_refused : (ps : List (List ℕ × Tree)) (ms : List (List ℕ × Json)) (i : ℕ) (m : List ℕ × Tree) → map member_of ps ≡ ms → i < length ps → m ≡ get_or ps i m → of_pairs f ps ≡ of_pairs f (drop i ps) → p m.0 (json_of m.1) ≡ false
      → false ≡ f (members_of ms)
  pair_refused ps ms i m same h is before e = sym (pair_turn ps i m false h is before e) ∙ ap (λ ns. f (members_of ns)) same

  pub pair_passed : (ps : List (List ℕ × Tree)) (i : ℕ) (m : List ℕ × Tree) → i < length ps → m ≡ get_or ps i m → of_pairs f ps ≡ of_pairs f (drop i ps) → p m.0 (json_of m.1) ≡ true
      → of_pairs f ps ≡ of_pairs f (drop (i + 1) ps)
  pair_passed ps i m h is before e = pair_turn ps i m true h is before e

  pub pairs_end : (ps : List (List ℕ × Tree)) (ms : List (List ℕ × Json)) (i : ℕ) → map member_of ps ≡ ms → length ps ≤ i → of_pairs f ps ≡ of_pairs f (drop i ps) → f no_members ≡ true → true ≡ f (members_of ms)
  pairs_end ps ms i same h before none = sym (before ∙ ap (of_pairs f) (drop_all i ps h) ∙ none) ∙ ap (λ ns. f (members_of ns)) same
