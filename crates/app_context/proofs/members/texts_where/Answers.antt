use Rattle.std.proofs.Common.{◌≡◌, ◌++◌, List, ℕ, map, take, ap, sym, subst, ◌∙◌, take_all}
use Rattle.json_tree.specs.Json.{members_of, AreSoundMembers}
use Rattle.json_tree.specs.Tree.{member_of}
use Rattle.json_tree.specs.declared.tree.Tree.{Tree}
use Rattle.enrol_states.specs.Order.{AreBelow}
use Rattle.app_context.specs.Contexts.{wants}
use Rattle.app_context.specs.Named.{names_of, texts_where}
use Rattle.app_context.proofs.Loops.{one_more}
use Rattle.app_context.proofs.Wanted.{texts_join, below_texts, one_text}
use Rattle.app_context.proofs.members.texts_where.Goals as goal

pub push_text-requires : goal.push_text-requires
push_text-requires c =
    let pairs = c.as_slice-pairs.result.now in
    let i = c.loop-name.name-index in
    let m = c.loop-name-item.result in
    let test = wants c.args.wanted in
    let sound = subst (λ ms. AreSoundMembers (members_of ms)) (sym c.as_slice-pairs.ensures.members) c.as_slice-pairs.ensures.sound in
    let below =
    subst (λ (n : List ℕ × Tree). AreBelow n.0 (names_of (texts_where test (members_of (map member_of (take i pairs)))))) (sym c.loop-name-item.is) (below_texts test pairs i m c.loop-name-test.true sound)
    in
    subst (λ ts. AreBelow m.0 (names_of ts)) (sym c.loop-name.invariant) below

pub loop-name-preserved : goal.loop-name-preserved
loop-name-preserved c =
    let m = c.loop-name-item.result in
    let test = wants c.args.wanted in
    let wanted : c.wants.result ≡ test m.0 = c.wants.ensures ∙ ap test c.as_str.ensures.text in
    one_more (λ ms. texts_where test (members_of (map member_of ms))) (texts_join test) c.as_slice-pairs.result.now c.loop-name.name-index m _ _ c.loop-name-test.true c.loop-name-item.is c.loop-name.invariant
    (c.in_ok-push_text.ensures ∙ ap (λ l. c.loop-name.texts ++ l) (one_text test c.wants.result m wanted))

pub returns : goal.returns
returns c =
    c.loop-name.invariant ∙ ap (λ ms. texts_where (wants c.args.wanted) (members_of (map member_of ms))) (take_all _ c.as_slice-pairs.result.now c.loop-name-test.false) ∙ ap (λ ms. texts_where (wants c.args.wanted) (members_of ms)) c.as_slice-pairs.ensures.members
