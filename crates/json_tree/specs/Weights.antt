-- Each child is less deep than what holds it.
use Rattle.std.specs.Prelude.{ℕ, ◌≤◌, max, List as Seq, [], ◌∷◌, map}
use Rattle.std.proofs.Common.{arith}
use Rattle.json_tree.specs.Json.{items_of, members_of, depth, items_depth, members_depth}
use Rattle.json_tree.specs.Tree.{json_of, member_of}
use Rattle.json_tree.specs.declared.tree.Tree.{Tree}
use Rattle.json_tree.specs.declared.tree.Tree.TheVariants.{Null, Truth, Whole, Odd, Text, List, Object}
use Rattle.json_tree.specs.declared.tree.Items.TheDeep.{deep-Tree, deep-Members}
use Rattle.json_tree.specs.declared.tree.Members.TheInside.{Inside}
use denote.Param.Weighed.{most}

pub tree_weight-le-depth : (t : Tree) → deep-Tree t ≤ depth (json_of t)
tree_weight-le-depth Null = omega arith
tree_weight-le-depth (Truth b) = omega arith
tree_weight-le-depth (Whole n) = omega arith
tree_weight-le-depth Odd = omega arith
tree_weight-le-depth (Text s) = omega arith
tree_weight-le-depth (List xs) = omega arith
tree_weight-le-depth (Object ms) = omega arith

pub items_weight-le-depth : (ts : Seq Tree) → most deep-Tree ts ≤ items_depth (items_of (map json_of ts))
items_weight-le-depth [] = omega arith
items_weight-le-depth (t ∷ ts) = omega (arith, tree_weight-le-depth t, items_weight-le-depth ts)

pub members_weight-le-depth : (weight : Seq ℕ × Tree → ℕ) → ((m : Seq ℕ × Tree) → weight m ≤ depth (json_of m.1)) → (ms : Seq (Seq ℕ × Tree)) → max (most weight ms) 0 ≤ members_depth (members_of (map member_of ms))
members_weight-le-depth weight h [] = omega arith
members_weight-le-depth weight h (m ∷ ms) = omega (arith, h m, members_weight-le-depth weight h ms)

pub deep_members-le-depth : (a : Inside) → deep-Members a ≤ members_depth (members_of (map member_of a.members.items))
deep_members-le-depth a = members_weight-le-depth _ (λ m. omega (arith, tree_weight-le-depth m.1)) a.members.items
