use Rattle.std.proofs.Common.{rules, ◌≡◌, ◌<◌, length, arith}
use Rattle.jexl_lexer.specs.declared.lexer.TheConstants.{MAX_TOKENS}
use Rattle.jexl_lexer.proofs.LexLoop.{turn, one_more, not_past, stops_blank, blanks_short, finish}
use Rattle.jexl_lexer.proofs.SpanLaws.{spans_rise, read_from, blanks_outside}
use Rattle.jexl_lexer.proofs.lexer.lex.Goals as goal

pub overflow_sub-end : goal.overflow_sub-end
overflow_sub-end c = omega (arith, c.loop-rest.invariant.short, not_past c.loop-rest.rest.now c.in-Ok.after.now c.in-Ok.kind c.in-Ok.ensures)

pub loop-rest-preserved : goal.loop-rest-preserved
loop-rest-preserved c =
    let few : length c.loop-rest.tokens < MAX_TOKENS = omega (arith, c.loop-rest.invariant.few, c.len.ensures, c.if-len-eq-MAX_TOKENS.false) in
    let l = not_past c.loop-rest.rest.now c.in-Ok.after.now c.in-Ok.kind c.in-Ok.ensures in
    let b = blanks_short c.in-Ok.after.now c.after_blanks-rest-in-Ok.result.now c.after_blanks-rest-in-Ok.ensures in
    let pushed = c.in_ok-push-in-Ok.ensures.ok in
    record {
      text = c.after_blanks-rest-in-Ok.utf8;
      reach = turn c.args.text.now c.loop-rest.rest.now c.in-Ok.after.now c.after_blanks-rest-in-Ok.result.now c.loop-rest.tokens c.push.new.self c.in-Ok.kind c.loop-rest.invariant.reach few c.in-Ok.ensures pushed c.after_blanks-rest-in-Ok.ensures;
      stop = stops_blank c.in-Ok.after.now c.after_blanks-rest-in-Ok.result.now c.after_blanks-rest-in-Ok.ensures;
      few = one_more c.loop-rest.tokens c.push.new.self _ pushed few;
      short = omega (arith, l, b, c.loop-rest.invariant.short);
    }

pub returns-clause-rise : goal.returns-clause-rise
returns-clause-rise c =
    let empty : length c.loop-rest.rest.now ≡ 0 = search rules in
    spans_rise c.args.text.now c.loop-rest.tokens (finish c.args.text.now c.loop-rest.rest.now c.loop-rest.tokens c.loop-rest.invariant.reach empty)

pub returns-clause-slices : goal.returns-clause-slices
returns-clause-slices c =
    let empty : length c.loop-rest.rest.now ≡ 0 = search rules in
    read_from c.args.text.now c.loop-rest.tokens (finish c.args.text.now c.loop-rest.rest.now c.loop-rest.tokens c.loop-rest.invariant.reach empty)

pub returns-clause-blanks : goal.returns-clause-blanks
returns-clause-blanks c =
    let empty : length c.loop-rest.rest.now ≡ 0 = search rules in
    blanks_outside c.args.text.now c.loop-rest.tokens (finish c.args.text.now c.loop-rest.rest.now c.loop-rest.tokens c.loop-rest.invariant.reach empty)
