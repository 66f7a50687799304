use Rattle.std.proofs.Common.{rules, ◌≡◌, length, vec_len, sym, ◌∙◌}
use Rattle.jexl_eval.proofs.Placing.{nodes_more, last_node}
use Rattle.jexl_eval.proofs.preparing.place_for.Goals as goal

pub returns-clause-grows : goal.returns-clause-grows
returns-clause-grows c = nodes_more c.args.parts.now.items c.push.new.self.items c.args.node c.in_ok-push.ensures.items

pub returns-clause-place : goal.returns-clause-place
returns-clause-place c =
    let l : vec_len c.args.parts.now ≡ length c.args.parts.now.items = search rules in
    (last_node c.args.parts.now.items c.push.new.self.items c.args.node c.len-place.result c.in_ok-push.ensures.items (c.len-place.ensures ∙ l), sym c.has_relative.ensures ∙ c.if-has_relative.false)
