use Rattle.std.proofs.Common.{map, take, ap, sym, subst, ◌∙◌, take_all}
use Rattle.json_tree.specs.Json.{members_of, IsAbove, AreSoundMembers}
use Rattle.json_tree.specs.Tree.{member_of}
use Rattle.json_tree.proofs.Pairs.{IsAbove-at}
use Rattle.app_context.specs.Attributes.{custom_attributes}
use Rattle.app_context.proofs.Loops.{one_more}
use Rattle.app_context.proofs.Wanted.{custom_join, above_custom}
use Rattle.app_context.proofs.custom.custom_attributes.Goals as goal

pub push_custom-requires : goal.push_custom-requires
push_custom-requires c =
    let members = c.as_slice-members.result.now in
    let i = c.loop-name.name-index in
    let m = c.loop-name-item.result in
    let sound = subst (λ ms. AreSoundMembers (members_of ms)) (sym c.as_slice-members.ensures.members) c.as_slice-members.ensures.sound in
    let above = above_custom m.0 (map member_of (take i members)) (IsAbove-at members i m c.loop-name-test.true c.loop-name-item.is sound) in
    subst (IsAbove m.0) (sym c.loop-name.invariant) above

pub loop-name-preserved : goal.loop-name-preserved
loop-name-preserved c =
    one_more (λ ms. custom_attributes (map member_of ms)) custom_join c.as_slice-members.result.now c.loop-name.name-index c.loop-name-item.result _ _ c.loop-name-test.true c.loop-name-item.is c.loop-name.invariant c.in_ok-push_custom.ensures

pub returns : goal.returns
returns c =
    c.loop-name.invariant ∙ ap (λ ms. custom_attributes (map member_of ms)) (take_all _ c.as_slice-members.result.now c.loop-name-test.false) ∙ ap custom_attributes c.as_slice-members.ensures.members

pub loop-name-init : goal.loop-name-init
unfolding custom_attributes
loop-name-init c = c.new-kept.ensures
