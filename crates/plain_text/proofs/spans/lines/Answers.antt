use Rattle.std.proofs.Common.{◌+◌, ◌∷◌, [], ◌++◌, ap, ◌∙◌}
use Rattle.plain_text.proofs.Splitting.{line_turn, line_end}
use Rattle.plain_text.proofs.spans.lines.Goals as goal

pub loop-len-preserved : goal.loop-len-preserved
loop-len-preserved c =
    let start = c.loop-len.start in
    let grows = c.in_ok-push.ensures.ok ∙ ap (λ n. c.loop-len.spans ++ (start, start + n) ∷ []) c.trimmed_len.ensures in
    let turn = line_turn c.args.bytes.now start c.in-Some.len c.loop-len.spans _ _ c.loop-len.invariant.within c.in-Some.ensures grows c.loop-len.invariant.same in
    record { within = turn.0; same = turn.1 }

pub returns : goal.returns
returns c =
    line_end c.args.bytes.now c.loop-len.start c.loop-len.spans _ _ c.loop-len.invariant.within c.in_default.ensures c.in_ok-push_last_line.ensures c.loop-len.invariant.same
