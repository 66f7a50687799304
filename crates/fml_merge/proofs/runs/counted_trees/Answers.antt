use Rattle.std.proofs.Common.{◌≡◌, ℕ, suc, ◌+◌, ◌≤◌, ◌++◌, List, [], ◌∷◌, map, take, Bor, Vec, Global, option_map, sym, ap, ap₂, ◌∙◌, subst, arith}
use Rattle.json_tree.specs.Json as json
use Rattle.json_tree.specs.Json.{Json, depth, members_depth, members_of}
use Rattle.json_tree.specs.Tree.{json_of}
use Rattle.json_tree.specs.declared.tree.Tree.{Tree}
use Rattle.fml_types.specs.Shape.{Shape}
use Rattle.fml_types.specs.Shapes.{shape_of}
use Rattle.fml_value.specs.Typed.{TypedValue}
use Rattle.fml_merge.specs.Overlay.{laid}
use Rattle.fml_merge.specs.Laying.{members_in}
use Rattle.fml_merge.specs.Layers.{objects_laid, replaced_by, depth_of, trees_depth, objects_depth}
use Rattle.fml_merge.specs.declared.sorting.Piece.{Piece}
use Rattle.fml_merge.proofs.Fields.{replaces}
use Rattle.fml_merge.proofs.Layered.{over_more, over_join, tree_deep, untaken_more, object_more, other_more, not_object, deeper}
use Rattle.fml_merge.proofs.Turns.{tree_in}
use Rattle.fml_merge.proofs.runs.counted_trees.Goals.{then-takes+in-Object+in_ok-push-in-Object, then-takes+in_default, else-takes}
use Rattle.fml_merge.proofs.runs.counted_trees.Goals as goal

pub loop-piece-preserved : goal.loop-piece-preserved
loop-piece-preserved c =
    let types = c.args.types.now in
    let s = shape_of c.args.of.now in
    let pieces = c.args.pieces.now in
    let i = c.loop-piece.piece-index in
    let p = c.piece-item.result in
    let objects = map members_in c.loop-piece.objects.items in
    let xs = map tree_in (take i pieces) in
    let ys = map tree_in (take (i + 1) pieces) in
    let more = over_more tree_in pieces i p c.loop-piece-test.true c.piece-item.is in
    let x = tree_in p in
    let deepest = trees_depth (map tree_in pieces) in
    let so_far = c.loop-piece.invariant.same in
    let under = λ (zeros : Shape → TypedValue) (base : TypedValue). replaced_by zeros types s base (option_map (λ (t : Bor Tree). json_of t.now) c.loop-piece.replacing) in
    let here = subst (λ (q : Piece). depth (json_of q.tree.now) ≤ deepest) (sym c.piece-item.is) (tree_deep tree_in pieces i p c.loop-piece-test.true) in
    elim c.if-takes.branch [
      | then-takes+in-Object+in_ok-push-in-Object w ↦ (
          let ms = members_of w.in-Object.members in
          let grows : map members_in c.if-takes.objects.items ≡ objects ++ ms ∷ [] =
          ap (λ (v : Vec (Bor (List (List ℕ × Json))) Global). map members_in v.items) w.objects-is ∙ ap (map members_in) w.in_ok-push-in-Object.ensures.items ∙ over_join members_in c.loop-piece.objects.items _ in
          let is : x ≡ json.object ms = ap json_of w.in-Object.is in
          let size : depth x ≡ suc (members_depth ms) = ap depth is in
          let one : suc (members_depth ms) ≤ deepest = omega (arith, here, size) in
          record {
            same = λ zeros base. ap (λ o. objects_laid zeros types s (replaced_by zeros types s base (option_map (λ (t : Bor Tree). json_of t.now) o)) (map members_in c.if-takes.objects.items)) w.replacing-is
                ∙ object_more zeros types s base (under zeros base) objects xs ys x more (so_far zeros base) ms (map members_in c.if-takes.objects.items) (sym w.if-takes.ensures) is grows;
            replacing = subst (λ o. depth_of (option_map (λ (t : Bor Tree). json_of t.now) o) ≤ deepest) (sym w.replacing-is) c.loop-piece.invariant.replacing;
            objects = subst (λ l. objects_depth l ≤ deepest) (sym grows) (deeper objects ms deepest c.loop-piece.invariant.objects one);
          }
          )
      | then-takes+in_default w ↦ (
          let none : c.if-takes.objects.items ≡ [] = ap (λ (v : Vec (Bor (List (List ℕ × Json))) Global). v.items) w.objects-is ∙ w.clear.ensures.items in
          let other = not_object p.tree.now w.in_default.not-Object in
          record {
            same = λ zeros base. ap₂ (λ o l. objects_laid zeros types s (replaced_by zeros types s base (option_map (λ (t : Bor Tree). json_of t.now) o)) (map members_in l)) w.replacing-is none
                ∙ other_more zeros types s base (under zeros base) objects xs ys x more (so_far zeros base) (laid zeros types s (zeros s) x) (sym w.if-takes.ensures) other (replaces zeros types s x (zeros s) (under zeros base) other);
            replacing = subst (λ o. depth_of (option_map (λ (t : Bor Tree). json_of t.now) o) ≤ deepest) (sym w.replacing-is) here;
            objects = subst (λ l. objects_depth (map members_in l) ≤ deepest) (sym none) (omega arith);
          }
          )
      | else-takes w ↦ record {
        same = λ zeros base. ap₂ (λ o (v : Vec (Bor (List (List ℕ × Json))) Global). objects_laid zeros types s (replaced_by zeros types s base (option_map (λ (t : Bor Tree). json_of t.now) o)) (map members_in v.items)) w.replacing-is w.objects-is
            ∙ untaken_more zeros types s base (under zeros base) objects xs ys x more (so_far zeros base) (sym w.if-takes.ensures);
        replacing = subst (λ o. depth_of (option_map (λ (t : Bor Tree). json_of t.now) o) ≤ deepest) (sym w.replacing-is) c.loop-piece.invariant.replacing;
        objects = subst (λ (v : Vec (Bor (List (List ℕ × Json))) Global). objects_depth (map members_in v.items) ≤ deepest) (sym w.objects-is) c.loop-piece.invariant.objects;
      }
    ]
