-- Layers of members that are laid one after the other, and what they have under each name.
use Rattle.std.specs.Prelude.{◌≡◌, ℕ, suc, max, false, List as Seq, [], ◌∷◌, ◌++◌, Option as Maybe, Some, None, ⊤, bytes_eq, if◌then◌else◌}
use Rattle.std.specs.List.{list_any}
use Rattle.std.specs.Cmp.Lexicographic.{slice_cmp}
use Rattle.std.specs.Ordering.{nat_cmp, is_lt}
use Rattle.json_tree.specs.Json as json
use Rattle.json_tree.specs.Json.{Json, depth, members_depth}
use Rattle.json_tree.specs.Tree.{json_of}
use Rattle.fml_types.specs.Shape.{Shape}
use Rattle.fml_types.specs.declared.manifest.TypeTable.{TypeTable}
use Rattle.fml_value.specs.Takes.{takes}
use Rattle.fml_value.specs.Typed.{TypedValue}
use Rattle.fml_merge.specs.Overlay.{laid, members_laid, with_member, overlay_with}
use Rattle.fml_merge.specs.declared.sorting.Piece.{Piece}

-- trees laid over a value of the type, one after the other: each that the type takes
abbrev pub trees_laid : (Shape → TypedValue) → TypeTable → Shape → TypedValue → Seq Json → TypedValue
trees_laid zeros types t v [] = v
trees_laid zeros types t v (x ∷ xs) = trees_laid zeros types t (overlay_with zeros types t v x) xs

-- a value, or in its place a tree laid over the zero of its type
abbrev pub replaced_by : (Shape → TypedValue) → TypeTable → Shape → TypedValue → Maybe Json → TypedValue
replaced_by zeros types t v None = v
replaced_by zeros types t v (Some x) = laid zeros types t (zeros t) x

-- objects laid over a value of a type that takes them, one after the other
abbrev pub objects_laid : (Shape → TypedValue) → TypeTable → Shape → TypedValue → Seq json.Members → TypedValue
objects_laid zeros types t v [] = v
objects_laid zeros types t v (ms ∷ mss) = objects_laid zeros types t (laid zeros types t v (json.object ms)) mss

-- layers of members laid over entries, one after the other
abbrev pub layers_laid : (Shape → TypedValue) → TypeTable → (Seq ℕ → Maybe Shape) → Seq (Seq ℕ × TypedValue) → Seq json.Members → Seq (Seq ℕ × TypedValue)
layers_laid zeros types type_of es [] = es
layers_laid zeros types type_of es (ms ∷ mss) = layers_laid zeros types type_of (members_laid zeros types type_of es ms) mss

-- trees laid over the entry of their name, or over zero where there is none
abbrev pub run_laid : (Shape → TypedValue) → TypeTable → (Seq ℕ → Maybe Shape) → Seq ℕ → Seq Json → Seq (Seq ℕ × TypedValue) → Seq (Seq ℕ × TypedValue)
run_laid zeros types type_of name xs = with_member zeros (λ t. list_any (takes types t) xs) (λ t v. trees_laid zeros types t v xs) name (type_of name)

-- ---- the members of layers

-- a member without its addresses
abbrev pub piece_of : Piece → Seq ℕ × Json
piece_of p = (p.name.now, json_of p.tree.now)

-- the members of all layers, in the layers' order
abbrev pub pieces : Seq (Seq (Seq ℕ × Json)) → Seq (Seq ℕ × Json)
pieces [] = []
pieces (l ∷ ls) = l ++ pieces ls

-- the trees that members have under a name, in order
abbrev pub trees_under : Seq ℕ → Seq (Seq ℕ × Json) → Seq Json
trees_under name [] = []
trees_under name (p ∷ ps) = if bytes_eq p.0 name then p.1 ∷ trees_under name ps else trees_under name ps

-- no name is below this one
abbrev pub IsLeast : Seq ℕ → Seq (Seq ℕ × Json) → Type 0
IsLeast name [] = ⊤
IsLeast name (p ∷ ps) = (is_lt (slice_cmp nat_cmp p.0 name) ≡ false) × IsLeast name ps

-- no name is below one before it
abbrev pub AreClimbing : Seq (Seq ℕ × Json) → Type 0
AreClimbing [] = ⊤
AreClimbing (p ∷ ps) = IsLeast p.0 ps × AreClimbing ps

-- how many members come first that have the name
abbrev pub run_length : Seq ℕ → Seq (Seq ℕ × Json) → ℕ
run_length name [] = 0
run_length name (p ∷ ps) = if bytes_eq p.0 name then suc (run_length name ps) else 0

-- the depth of a tree, where there is one
abbrev pub depth_of : Maybe Json → ℕ
depth_of None = 0
depth_of (Some x) = depth x

-- the greatest depth of trees, and of what the members of layers have
abbrev pub trees_depth : Seq Json → ℕ
trees_depth [] = 0
trees_depth (x ∷ xs) = max (depth x) (trees_depth xs)

abbrev pub layers_depth : Seq json.Members → ℕ
layers_depth [] = 0
layers_depth (ms ∷ mss) = max (members_depth ms) (layers_depth mss)

-- the greatest depth of the objects of these members
abbrev pub objects_depth : Seq json.Members → ℕ
objects_depth [] = 0
objects_depth (ms ∷ mss) = suc (max (members_depth ms) (layers_depth mss))
