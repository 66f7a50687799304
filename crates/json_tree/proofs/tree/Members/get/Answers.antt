use Rattle.std.proofs.Common.{rules, sym, ap, ◌∙◌, subst}
use Rattle.std.proofs.lemmas.Fn.{always_returns_same}
use Rattle.json_tree.specs.Json.{get_member, members_of}
use Rattle.json_tree.specs.Tree.{json_of}
use Rattle.json_tree.proofs.Growing.{IsRising, IsRising-sound}
use Rattle.json_tree.proofs.Searching.{key_order, get_member-at, get_member-absent}
use Rattle.json_tree.proofs.tree.Members.get.Goals as goal

pub returns-in-Ok : goal.returns-in-Ok
returns-in-Ok c =
    let members = c.as_slice-members.result.now in
    let key = c.args.key.now in
    let rising = subst IsRising (sym c.as_slice-members.ensures.members) (IsRising-sound _ c.as_slice-members.ensures.sound) in
    let here = c.in-Ok.ensures.position (key_order key) (always_returns_same _ _ _ (λ a r g called. search rules)) in
    sym (get_member-at json_of key members c.in-Ok.place c.index-members-place.result c.in-Ok.ensures.bound rising (here c.index-members-place.result)) ∙ ap (λ ms. get_member key (members_of ms)) c.as_slice-members.ensures.members

pub returns-in-Err : goal.returns-in-Err
returns-in-Err c =
    let members = c.as_slice-members.result.now in
    let key = c.args.key.now in
    let rising = subst IsRising (sym c.as_slice-members.ensures.members) (IsRising-sound _ c.as_slice-members.ensures.sound) in
    let nowhere = c.in-Err.ensures.position (key_order key) (always_returns_same _ _ _ (λ a r g called. search rules)) in
    sym (get_member-absent json_of key members c.in-Err.field-0 rising nowhere) ∙ ap (λ ms. get_member key (members_of ms)) c.as_slice-members.ensures.members
