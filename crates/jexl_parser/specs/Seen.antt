-- What is kept of a tree while it is read: the tree itself only while it fits, and its relative names.
use Rattle.std.specs.Prelude.{ℕ, Bool, cond, nat_le, ◌||◌, List, Option, Some, None}
use Rattle.jexl_parser.specs.declared.node.BinarySign.{BinarySign}
use Rattle.jexl_parser.specs.Tree.{Tree, Items, Members, Member, Index, Filter, Transform, Not, Binary, Choose, OrElse, add, add_pair, has_relative, height}

pub record Seen : Type 0 where
  pub tree : Option Tree
  pub relative : Bool

-- a list with one more item; members with one more pair; a transform with these arguments. Another tree stays
abbrev pub item_of : Tree → Tree → Tree
item_of (Items ts) b = Items (add ts b)
item_of a b = a

abbrev pub pair_of : Tree → List ℕ → Tree → Tree
pair_of (Members ps) n b = Members (add_pair ps n b)
pair_of a n b = a

abbrev pub transform_of : Tree → List ℕ → Tree → Tree
transform_of a n (Items ts) = Transform a n ts
transform_of a n b = a

-- where a tree fits if no path in it has more than `limit` nodes
module _ (limit : ℕ) where
  -- the tree, if no path in it has more than `limit` nodes
  abbrev pub fit : Tree → Option Tree
  fit t = cond (nat_le (height t) limit) (Some t) None

  abbrev pub cap : Tree → Seen
  cap t = record { tree = fit t; relative = has_relative t }

  abbrev pub with_1 : (Tree → Tree) → Option Tree → Option Tree
  with_1 g None = None
  with_1 g (Some a) = fit (g a)

  abbrev pub with_2 : (Tree → Tree → Tree) → Option Tree → Option Tree → Option Tree
  with_2 g None b = None
  with_2 g (Some a) None = None
  with_2 g (Some a) (Some b) = fit (g a b)

  abbrev pub with_3 : (Tree → Tree → Tree → Tree) → Option Tree → Option Tree → Option Tree → Option Tree
  with_3 g None b c = None
  with_3 g (Some a) None c = None
  with_3 g (Some a) (Some b) None = None
  with_3 g (Some a) (Some b) (Some c) = fit (g a b c)

  abbrev pub seen_not : Seen → Seen
  seen_not a = record { tree = with_1 Not a.tree; relative = a.relative }

  abbrev pub seen_member : Seen → List ℕ → Seen
  seen_member a n = record { tree = with_1 (λ x. Member x n) a.tree; relative = a.relative }

  abbrev pub seen_bracket : Seen → Seen → Seen
  seen_bracket a b = record { tree = with_2 (λ x y. cond b.relative (Filter x y) (Index x y)) a.tree b.tree; relative = a.relative }

  abbrev pub seen_binary : BinarySign → Seen → Seen → Seen
  seen_binary o a b = record { tree = with_2 (Binary o) a.tree b.tree; relative = a.relative || b.relative }

  abbrev pub seen_or_else : Seen → Seen → Seen
  seen_or_else a c = record { tree = with_2 OrElse a.tree c.tree; relative = a.relative || c.relative }

  abbrev pub seen_choose : Seen → Seen → Seen → Seen
  seen_choose a b c = record { tree = with_3 Choose a.tree b.tree c.tree; relative = a.relative || (b.relative || c.relative) }

  abbrev pub seen_args : Seen → List ℕ → Seen → Seen
  seen_args a n b = record { tree = with_2 (λ x y. transform_of x n y) a.tree b.tree; relative = a.relative || b.relative }

  abbrev pub seen_item : Seen → Seen → Seen
  seen_item a b = record { tree = with_2 item_of a.tree b.tree; relative = a.relative || b.relative }

  abbrev pub seen_pair : Seen → List ℕ → Seen → Seen
  seen_pair a n b = record { tree = with_2 (λ x y. pair_of x n y) a.tree b.tree; relative = a.relative || b.relative }
