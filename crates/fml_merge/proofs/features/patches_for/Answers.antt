use Rattle.std.proofs.Common.{◌≡◌, ◌++◌, true, false, [], ◌∷◌, map, Bor, Vec, Global, sym, ap, ◌∙◌, append-nil}
use Rattle.std.specs.Prelude.{if◌then◌else◌}
use Rattle.json_tree.specs.Json.{Json}
use Rattle.json_tree.specs.Tree.{json_of}
use Rattle.json_tree.specs.declared.tree.Tree.{Tree}
use Rattle.fml_merge.specs.Features.{is_for}
use Rattle.fml_merge.proofs.Layered.{over_join}
use Rattle.fml_merge.proofs.Patches.{patches_more}
use Rattle.fml_merge.proofs.features.patches_for.Goals.{then-is_for+in_ok-push, else-is_for}
use Rattle.fml_merge.proofs.features.patches_for.Goals as goal

abbrev tree_in : Bor Tree → Json
tree_in t = json_of t.now

pub loop-entry-preserved : goal.loop-entry-preserved
loop-entry-preserved c =
    let channel = c.args.channel.now in
    let e = c.entry-item.result in
    let before = map tree_in c.loop-entry.patches.items in
    let more = patches_more channel c.args.entries.now c.loop-entry.entry-index e before c.loop-entry-test.true c.entry-item.is c.loop-entry.invariant in
    elim c.if-is_for.branch [
      | then-is_for+in_ok-push w ↦ (
          let yes : is_for channel e.channels ≡ true = sym c.is_for.ensures ∙ w.if-is_for.true in
          ap (λ (v : Vec (Bor Tree) Global). map tree_in v.items) w.patches-is ∙ ap (map tree_in) w.in_ok-push.ensures.items ∙ over_join tree_in c.loop-entry.patches.items _
          ∙ sym (ap (λ b. before ++ (if b then json_of e.value ∷ [] else [])) yes) ∙ more
          )
      | else-is_for w ↦ (
          let no : is_for channel e.channels ≡ false = sym c.is_for.ensures ∙ w.if-is_for.false in
          ap (λ (v : Vec (Bor Tree) Global). map tree_in v.items) w.patches-is ∙ sym (append-nil before) ∙ sym (ap (λ b. before ++ (if b then json_of e.value ∷ [] else [])) no) ∙ more
          )
    ]
