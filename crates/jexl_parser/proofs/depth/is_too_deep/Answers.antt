use Rattle.std.proofs.Common.{◌≡◌, ◌∙◌, sym, false}
use Rattle.jexl_parser.specs.Counting.{over}
use Rattle.jexl_parser.specs.Kinds.{kinds_of}
use Rattle.jexl_parser.proofs.Counts.{deep_end, deep_over, deep_on, not_over}
use Rattle.jexl_parser.proofs.depth.is_too_deep.Goals as goal

pub returns-then-is_over : goal.returns-then-is_over
returns-then-is_over c = sym (c.loop-first.invariant.same ∙ deep_over c.loop-first.nested c.loop-first.bangs c.loop-first.questions (kinds_of c.loop-first.rest.now) c.in-Some.first.now (kinds_of c.in-Some.after.now) c.bracket_count-nested.result c.bang_count-bangs.result c.question_count-questions.result c.in-Some.ensures.found c.bracket_count-nested.ensures c.bang_count-bangs.ensures c.question_count-questions.ensures (sym c.is_over.ensures ∙ c.if-is_over.true))

pub loop-first-preserved : goal.loop-first-preserved
loop-first-preserved c =
    let few : over c.bracket_count-nested.result c.bang_count-bangs.result c.question_count-questions.result ≡ false = sym c.is_over.ensures ∙ c.if-is_over.false in
    let w = not_over c.bracket_count-nested.result c.bang_count-bangs.result c.question_count-questions.result few in
    record {
      same = c.loop-first.invariant.same ∙ deep_on c.loop-first.nested c.loop-first.bangs c.loop-first.questions (kinds_of c.loop-first.rest.now) c.in-Some.first.now (kinds_of c.in-Some.after.now) c.bracket_count-nested.result c.bang_count-bangs.result c.question_count-questions.result c.in-Some.ensures.found c.bracket_count-nested.ensures c.bang_count-bangs.ensures c.question_count-questions.ensures few;
      few_open = w.0;
      few_bangs = w.1;
      few_questions = w.2;
    }

pub returns : goal.returns
returns c = sym (c.loop-first.invariant.same ∙ deep_end c.loop-first.nested c.loop-first.bangs c.loop-first.questions (kinds_of c.loop-first.rest.now) c.in_default.ensures.found)
