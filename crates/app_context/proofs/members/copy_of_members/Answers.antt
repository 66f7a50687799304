use Rattle.std.proofs.Common.{map, take, sym, subst}
use Rattle.json_tree.specs.Json.{members_of, IsAbove, AreSoundMembers}
use Rattle.json_tree.specs.Tree.{member_of}
use Rattle.json_tree.proofs.Pairs.{IsAbove-at}
use Rattle.app_context.proofs.members.copy_of_members.Goals as goal

pub push-requires : goal.push-requires
push-requires c =
    let pairs = c.as_slice-pairs.result.now in
    let m = c.loop-key-item.result in
    let sound = subst (λ ms. AreSoundMembers (members_of ms)) (sym c.as_slice-pairs.ensures.members) c.as_slice-pairs.ensures.sound in
    let above = IsAbove-at pairs c.loop-key.key-index m c.loop-key-test.true c.loop-key-item.is sound in
    subst (λ ms. IsAbove c.in_ok-clone.field-0 ms) (sym c.loop-key.invariant) (subst (λ k. IsAbove k (map member_of (take c.loop-key.key-index pairs))) (sym c.in_ok-clone.ensures.cases) above)
