use Rattle.std.proofs.Common.{◌∙◌, ◌+◌, arith}
use Rattle.std.proofs.lemmas.Result.{err_from_is_err_and}
use Rattle.jexl_parser.specs.declared.node.TheConstants.{MAX_HEIGHT}
use Rattle.jexl_parser.specs.Reading.{read_of, Climb, APostfix}
use Rattle.jexl_parser.specs.Turns.{suffix_read}
use Rattle.jexl_parser.specs.Kept.{see}
use Rattle.jexl_parser.specs.Kinds.{kinds_of}
use Rattle.jexl_parser.proofs.Steps.{fails_by, loop_goes, loop_fails, suffixes_go, suffixes_end}
use Rattle.jexl_parser.proofs.parser.+parser.Goals as goal

pub climb-returns-in_err-right-clause-read : goal.climb-returns-in_err-right-clause-read
climb-returns-in_err-right-clause-read t c =
    let p = err_from_is_err_and c.from_residual-in_err-right.result c.from_residual-in_err-right.ensures.1 in
    rw (p.1, p.2) (fails_by c.in_err-right.field-0.0 (read_of MAX_HEIGHT (Climb (c.level.result + 1)) (kinds_of c.in-Some.next.now)) (read_of MAX_HEIGHT (Climb c.args.lowest) (kinds_of c.args.tokens.now)) (λ r. c.loop-sign.invariant.same ∙ loop_fails c.args.lowest (see c.loop-sign.left) (kinds_of c.loop-sign.rest.now) (kinds_of c.in-Some.next.now) c.in-Some.sign c.level.result c.in-Some.ensures.found c.level.ensures.level r) c.in_err-right.ensures.read)

pub climb-loop-sign-preserved : goal.climb-loop-sign-preserved
climb-loop-sign-preserved t c = record {
  same = c.loop-sign.invariant.same ∙ loop_goes c.args.lowest (see c.loop-sign.left) (kinds_of c.loop-sign.rest.now) (kinds_of c.in-Some.next.now) c.in-Some.sign c.level.result (see c.in_ok-right.right) (see c.in_ok-left-2.left) (kinds_of c.in_ok-right.after.now) c.in-Some.ensures.found c.level.ensures.level c.in_ok-right.ensures.read c.in_ok-left-2.ensures;
  short = omega (arith, c.in_ok-right.ensures.short, c.in-Some.ensures.short);
}

pub postfix-returns-in_err-longer-clause-read : goal.postfix-returns-in_err-longer-clause-read
postfix-returns-in_err-longer-clause-read t c =
    let p = err_from_is_err_and c.from_residual-in_err-longer.result c.from_residual-in_err-longer.ensures.1 in
    rw (p.1, p.2) (fails_by c.in_err-longer.field-0.0 (suffix_read (see c.loop-suffix.subject) c.in-Some.suffix (kinds_of c.in-Some.after.now)) (read_of MAX_HEIGHT APostfix (kinds_of c.args.tokens.now)) (λ r. c.loop-suffix.invariant.same ∙ suffixes_go (see c.loop-suffix.subject) (kinds_of c.loop-suffix.rest.now) (kinds_of c.in-Some.after.now) c.in-Some.suffix c.in-Some.ensures.found ∙ r) c.in_err-longer.ensures.read)

pub postfix-loop-suffix-preserved : goal.postfix-loop-suffix-preserved
postfix-loop-suffix-preserved t c = record {
  same = c.loop-suffix.invariant.same ∙ suffixes_go (see c.loop-suffix.subject) (kinds_of c.loop-suffix.rest.now) (kinds_of c.in-Some.after.now) c.in-Some.suffix c.in-Some.ensures.found ∙ c.in_ok-longer.ensures.read;
  short = omega (arith, c.in_ok-longer.ensures.short, c.in-Some.ensures.short);
}

pub postfix-returns-clause-read : goal.postfix-returns-clause-read
postfix-returns-clause-read t c = c.loop-suffix.invariant.same ∙ suffixes_end (see c.loop-suffix.subject) (kinds_of c.loop-suffix.rest.now) c.in_default.ensures.found
