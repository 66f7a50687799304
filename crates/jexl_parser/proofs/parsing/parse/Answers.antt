use Rattle.std.proofs.Common.{◌∙◌, sym}
use Rattle.std.proofs.lemmas.Result.{err_from_is_err_and}
use Rattle.jexl_parser.specs.Kept.{see}
use Rattle.jexl_parser.specs.Kinds.{kinds_of}
use Rattle.jexl_parser.proofs.Counts.{too_deep}
use Rattle.jexl_parser.proofs.Whole.{parses_fails, parses_left, parses_open, is_whole, parses_whole}
use Rattle.jexl_parser.proofs.parsing.parse.Goals as goal

pub returns-then-is_too_deep : goal.returns-then-is_too_deep
returns-then-is_too_deep c = too_deep (kinds_of c.args.tokens.now) (sym c.is_too_deep.ensures ∙ c.if-is_too_deep.true)

pub returns-in_err-part : goal.returns-in_err-part
returns-in_err-part c =
    let p = err_from_is_err_and c.from_residual.result c.from_residual.ensures.1 in
    rw (p.1, p.2) (parses_fails (kinds_of c.args.tokens.now) c.in_err-part.field-0.0 (sym c.is_too_deep.ensures ∙ c.if-is_too_deep.false) c.in_err-part.ensures.read)

pub whole-requires : goal.whole-requires
whole-requires c = is_whole (kinds_of c.args.tokens.now) (see c.in_ok-part.part) (kinds_of c.in_ok-part.rest.now) c.in_ok-part.ensures.read c.in-None.ensures.found c.if-part.false

pub returns-in-Some : goal.returns-in-Some
returns-in-Some c = parses_left (kinds_of c.args.tokens.now) (see c.in_ok-part.part) (kinds_of c.in_ok-part.rest.now) c.in-Some.field-0.0.now (kinds_of c.in-Some.field-0.1.now) (sym c.is_too_deep.ensures ∙ c.if-is_too_deep.false) c.in_ok-part.ensures.read c.in-Some.ensures.found

pub returns-then-part : goal.returns-then-part
returns-then-part c = parses_open (kinds_of c.args.tokens.now) (see c.in_ok-part.part) (kinds_of c.in_ok-part.rest.now) (sym c.is_too_deep.ensures ∙ c.if-is_too_deep.false) c.in_ok-part.ensures.read c.if-part.true

pub returns-else-part : goal.returns-else-part
returns-else-part c = parses_whole (kinds_of c.args.tokens.now) (see c.in_ok-part.part) (kinds_of c.in_ok-part.rest.now) c.whole.result (sym c.is_too_deep.ensures ∙ c.if-is_too_deep.false) c.in_ok-part.ensures.read c.in-None.ensures.found c.if-part.false c.whole.ensures
