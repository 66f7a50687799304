use Rattle.std.proofs.Common.{map, sym, subst}
use Rattle.json_tree.specs.Json.{AreSoundMembers, members_of}
use Rattle.json_tree.specs.Tree.{member_of}
use Rattle.pref_bindings.proofs.BindingOrder.{read_order}
use Rattle.pref_bindings.proofs.BindingsRead.{features_end, read_are}
use Rattle.pref_bindings.proofs.bindings.read_bindings.Goals as goal

pub invariant_of-result : goal.invariant_of-result
invariant_of-result c =
    let bs = c.loop-feature.found.bindings in
    let members = c.as_slice-members.result.now in
    let read = features_end bs members c.loop-feature.feature-index _ c.loop-feature-test.false c.loop-feature.invariant.rest in
    let sound = subst (λ ms. AreSoundMembers (members_of ms)) (sym c.as_slice-members.ensures.members) c.as_slice-members.ensures.sound in
    (read_are bs (members_of (map member_of members)) read, read_order bs (members_of (map member_of members)) read sound)

pub returns-clause-are : goal.returns-clause-are
returns-clause-are c =
    let bs = c.loop-feature.found.bindings in
    let members = c.as_slice-members.result.now in
    read_are bs (members_of (map member_of members)) (features_end bs members c.loop-feature.feature-index _ c.loop-feature-test.false c.loop-feature.invariant.rest)
