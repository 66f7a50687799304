-- Trees of expressions, without where they lie in memory.
use Rattle.std.specs.Prelude.{ℕ, suc, ℤ, Bool, true, false, ◌||◌, max, List}
use Rattle.jexl_parser.specs.declared.node.BinarySign.{BinarySign}

-- a constant
pub data Constant : Type 0 where
  Null : Constant
  Truth : Bool → Constant
  Whole : ℤ → Constant
  Quote : List ℕ → Constant

mutual
  pub data Tree : Type 0 where
    Literal : Constant → Tree
    Named : List ℕ → Tree
    Relative : List ℕ → Tree
    Items : Trees → Tree
    Members : Pairs → Tree
    Member : Tree → List ℕ → Tree
    Index : Tree → Tree → Tree
    Filter : Tree → Tree → Tree
    Transform : Tree → List ℕ → Trees → Tree
    Not : Tree → Tree
    Binary : BinarySign → Tree → Tree → Tree
    Choose : Tree → Tree → Tree → Tree
    OrElse : Tree → Tree → Tree

  -- a list of trees
  pub data Trees : Type 0 where
    none : Trees
    one_more : Tree → Trees → Trees

  -- a list of trees, each with its key
  pub data Pairs : Type 0 where
    no_pair : Pairs
    pair : List ℕ → Tree → Pairs → Pairs

-- whether a relative name stands in the tree outside the bracket of each filter, and so belongs to a bracket around the tree
abbrev mutual
  pub has_relative : Tree → Bool
  has_relative (Literal c) = false
  has_relative (Named n) = false
  has_relative (Relative n) = true
  has_relative (Items ts) = any_relative ts
  has_relative (Members ps) = any_pair_relative ps
  has_relative (Member a n) = has_relative a
  has_relative (Index a b) = has_relative a || has_relative b
  has_relative (Filter a b) = has_relative a
  has_relative (Transform a n ts) = has_relative a || any_relative ts
  has_relative (Not a) = has_relative a
  has_relative (Binary o a b) = has_relative a || has_relative b
  has_relative (Choose a b c) = has_relative a || (has_relative b || has_relative c)
  has_relative (OrElse a c) = has_relative a || has_relative c

  pub any_relative : Trees → Bool
  any_relative none = false
  any_relative (one_more t ts) = has_relative t || any_relative ts

  pub any_pair_relative : Pairs → Bool
  any_pair_relative no_pair = false
  any_pair_relative (pair n t ps) = has_relative t || any_pair_relative ps

-- the nodes on the longest path
abbrev mutual
  pub height : Tree → ℕ
  height (Literal c) = 1
  height (Named n) = 1
  height (Relative n) = 1
  height (Items ts) = suc (most ts)
  height (Members ps) = suc (most_of_pairs ps)
  height (Member a n) = suc (height a)
  height (Index a b) = suc (max (height a) (height b))
  height (Filter a b) = suc (max (height a) (height b))
  height (Transform a n ts) = suc (max (height a) (most ts))
  height (Not a) = suc (height a)
  height (Binary o a b) = suc (max (height a) (height b))
  height (Choose a b c) = suc (max (height a) (max (height b) (height c)))
  height (OrElse a c) = suc (max (height a) (height c))

  pub most : Trees → ℕ
  most none = 0
  most (one_more t ts) = max (height t) (most ts)

  pub most_of_pairs : Pairs → ℕ
  most_of_pairs no_pair = 0
  most_of_pairs (pair n t ps) = max (height t) (most_of_pairs ps)

-- one more at the end
abbrev pub add : Trees → Tree → Trees
add none t = one_more t none
add (one_more s ts) t = one_more s (add ts t)

abbrev pub add_pair : Pairs → List ℕ → Tree → Pairs
add_pair no_pair n t = pair n t no_pair
add_pair (pair m s ps) n t = pair m s (add_pair ps n t)
