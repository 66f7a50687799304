use Rattle.std.proofs.Common.{ℕ, ◌++◌, List, [], ◌∷◌, map, Bor, Vec, Global, sym, ap, ◌∙◌, append-nil}
use Rattle.json_tree.specs.Json as json
use Rattle.json_tree.specs.Json.{Json, members_of}
use Rattle.json_tree.specs.Tree.{json_of}
use Rattle.json_tree.specs.declared.tree.Tree.{Tree}
use Rattle.fml_merge.specs.Features.{objects_among}
use Rattle.fml_merge.proofs.Layered.{over_join}
use Rattle.fml_merge.proofs.Patches.{objects_more, sound_more, not_among}
use Rattle.fml_merge.proofs.features.objects_among.Goals.{in-Object+in_ok-push, in_default}
use Rattle.fml_merge.proofs.features.objects_among.Goals as goal

abbrev members_in : Bor (List (List ℕ × Json)) → json.Members
members_in m = members_of m.now

abbrev tree_in : Bor Tree → Json
tree_in t = json_of t.now

pub loop-patch-preserved : goal.loop-patch-preserved
loop-patch-preserved c =
    let patches = c.args.patches.now in
    let i = c.loop-patch.patch-index in
    let x = c.patch-item.result in
    let before = map members_in c.loop-patch.layers.items in
    let more = objects_more tree_in patches i x c.loop-patch-test.true c.patch-item.is before c.loop-patch.invariant.layers in
    let sound = sound_more tree_in patches i x c.loop-patch-test.true c.patch-item.is c.loop-patch.invariant.sound c.keeps.ensures.sound in
    elim c.match-patch.branch [
      | in-Object+in_ok-push w ↦ record {
        layers = ap (λ (v : Vec (Bor (List (List ℕ × Json))) Global). map members_in v.items) w.layers-is ∙ ap (map members_in) w.in_ok-push.ensures.items ∙ over_join members_in c.loop-patch.layers.items _
            ∙ sym (ap (λ t. before ++ objects_among (json_of t ∷ [])) w.in-Object.is) ∙ more;
        sound = sound;
      }
      | in_default w ↦ record {
        layers = ap (λ (v : Vec (Bor (List (List ℕ × Json))) Global). map members_in v.items) w.layers-is ∙ sym (append-nil before) ∙ sym (ap (λ l. before ++ l) (not_among x.now w.in_default.not-Object)) ∙ more;
        sound = sound;
      }
    ]
