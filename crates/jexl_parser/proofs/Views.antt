-- The views of nodes over vectors.
use Rattle.std.proofs.Common.{◌≡◌, ℕ, suc, ◌<◌, ◌≤◌, Bool, cond, List, [], ◌∷◌, ◌++◌, Some, None, max, refl, ap, ◌∙◌, arith}
use Rattle.std.specs.Prelude.{Vec}
use Rattle.std.proofs.lemmas.Bool.{le-leb}
use Rattle.std.specs.declared.alloc.Global.{Global}
use Rattle.std.specs.declared.boxed.Box.{Box}
use Rattle.jexl_parser.specs.declared.node.TheConstants.{MAX_HEIGHT}
use Rattle.jexl_parser.specs.declared.node.Node.{Node, Row_of-Node, end_of-Node, more_of-Node, items-the_row-Node, items_hidden-the_row-Node-0, Row_of-Node-Members-0-2, end_of-Node-Members-0-2, more_of-Node-Members-0-2, items-the_row-Node-Members-0-2, items_hidden-the_row-Node-Members-0-2-1}
use Rattle.jexl_parser.specs.declared.node.Node.TheVariants as nodes
use Rattle.jexl_parser.specs.Tree.{Tree, Items, Members, Transform, Trees, one_more, Pairs, pair, add, add_pair, most, most_of_pairs, height}
use Rattle.jexl_parser.specs.View.{view, view_row, view_pair_row, views, view_pairs}
use Rattle.jexl_parser.specs.Seen.{fit}
use Rattle.jexl_parser.proofs.Seen.{fit_none, most_add, most_add_pair}

row_views : (n : _) (row : Row_of-Node n) → view_row row ≡ views (items-the_row-Node n row)
row_views n end_of-Node = refl
row_views n (more_of-Node t rest) = ap (λ (ts : Trees). one_more (view t) ts) (row_views _ rest)

pair_row_views : (n : _) (row : Row_of-Node-Members-0-2 n) → view_pair_row row ≡ view_pairs (items-the_row-Node-Members-0-2 n row)
pair_row_views n end_of-Node-Members-0-2 = refl
pair_row_views n (more_of-Node-Members-0-2 k t rest) = ap (λ (ps : Pairs). pair k (view t) ps) (pair_row_views _ rest)

abbrev row_of : Node → (n : _) × Row_of-Node n
row_of (nodes.List' _ row) = (_, row)
row_of (nodes.Transform' _ _ _ _ row) = (_, row)
row_of _ = (_, end_of-Node)

abbrev pair_row_of : Node → (n : _) × Row_of-Node-Members-0-2 n
pair_row_of (nodes.Members' _ row) = (_, row)
pair_row_of _ = (_, end_of-Node-Members-0-2)

pub view_list : (v : Vec Node Global) → view (nodes.List v) ≡ Items (views v.items)
view_list v = let row = row_of (nodes.List v) in ap Items (row_views row.0 row.1 ∙ ap views (items_hidden-the_row-Node-0 v))

pub view_members : (v : Vec (List ℕ × Node) Global) → view (nodes.Members v) ≡ Members (view_pairs v.items)
view_members v = let row = pair_row_of (nodes.Members v) in ap Members (pair_row_views row.0 row.1 ∙ ap view_pairs (items_hidden-the_row-Node-Members-0-2-1 v))

pub view_transform : (b : Box Node Global) (n : List ℕ) (v : Vec Node Global) → view (nodes.Transform b n v) ≡ Transform (view b.value) n (views v.items)
view_transform b n v = let row = row_of (nodes.Transform b n v) in ap (λ (ts : Trees). Transform (view b.value) n ts) (row_views row.0 row.1 ∙ ap views (items_hidden-the_row-Node-0 v))

pub views_push : (ns : List Node) (n : Node) → views (ns ++ (n ∷ [])) ≡ add (views ns) (view n)
views_push [] n = refl
views_push (m ∷ ns) n = ap (λ (ts : Trees). one_more (view m) ts) (views_push ns n)

pub pairs_push : (ps : List (List ℕ × Node)) (p : List ℕ × Node) → view_pairs (ps ++ (p ∷ [])) ≡ add_pair (view_pairs ps) p.0 (view p.1)
pairs_push [] p = refl
pairs_push (q ∷ ps) p = ap (λ (qs : Pairs). pair q.0 (view q.1) qs) (pairs_push ps p)

pub item_tall : (ts : Trees) (t : Tree) → MAX_HEIGHT < max (suc (most ts)) (suc (height t)) → fit MAX_HEIGHT (Items (add ts t)) ≡ None
item_tall ts t h = let e = most_add MAX_HEIGHT ts t in fit_none MAX_HEIGHT (Items (add ts t)) (omega arith)

pub pair_tall : (ps : Pairs) (n : List ℕ) (t : Tree) → MAX_HEIGHT < max (suc (most_of_pairs ps)) (suc (height t)) → fit MAX_HEIGHT (Members (add_pair ps n t)) ≡ None
pair_tall ps n t h = let e = most_add_pair MAX_HEIGHT ps n t in fit_none MAX_HEIGHT (Members (add_pair ps n t)) (omega arith)

pub item_height : (ts : Trees) (t : Tree) → suc (most (add ts t)) ≡ max (suc (most ts)) (suc (height t))
item_height ts t = let e = most_add MAX_HEIGHT ts t in omega arith

pub pair_height : (ps : Pairs) (n : List ℕ) (t : Tree) → suc (most_of_pairs (add_pair ps n t)) ≡ max (suc (most_of_pairs ps)) (suc (height t))
pair_height ps n t = let e = most_add_pair MAX_HEIGHT ps n t in omega arith

pub item_fits : (ts : Trees) (t : Tree) → max (suc (most ts)) (suc (height t)) ≤ MAX_HEIGHT → fit MAX_HEIGHT (Items (add ts t)) ≡ Some (Items (add ts t))
item_fits ts t h = let e = most_add MAX_HEIGHT ts t in ap (λ (b : Bool). cond b (Some (Items (add ts t))) None) (le-leb (height (Items (add ts t))) MAX_HEIGHT (omega arith))

pub pair_fits : (ps : Pairs) (n : List ℕ) (t : Tree) → max (suc (most_of_pairs ps)) (suc (height t)) ≤ MAX_HEIGHT → fit MAX_HEIGHT (Members (add_pair ps n t)) ≡ Some (Members (add_pair ps n t))
pair_fits ps n t h = let e = most_add_pair MAX_HEIGHT ps n t in ap (λ (b : Bool). cond b (Some (Members (add_pair ps n t))) None) (le-leb (height (Members (add_pair ps n t))) MAX_HEIGHT (omega arith))

pub transform_height : (b : Box Node Global) (n : List ℕ) (v : Vec Node Global) → height (view (nodes.Transform b n v)) ≡ suc (max (height (view b.value)) (most (views v.items)))
transform_height b n v = ap height (view_transform b n v)
