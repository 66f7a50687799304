use Rattle.std.proofs.Common.{ℕ, List, subst}
use Rattle.memchr.specs.Find.{IsFirstByte, is_byte2}
use Rattle.jexl_lexer.proofs.Quoting.{plain_cut}
use Rattle.jexl_lexer.proofs.quotes.split_plain.Goals as goal

pub returns-clause-cut : goal.returns-clause-cut
returns-clause-cut c =
    let found = subst (λ (bs : List ℕ). IsFirstByte (is_byte2 c.args.quote 92) bs c.memchr2.result) c.as_bytes.ensures.value c.memchr2.ensures in
    let cut = plain_cut c.args.quote c.args.text.now c.memchr2.result c.unwrap_or-end.result found c.unwrap_or-end.ensures in
    let front = c.split_at.ensures.front in
    let back = c.split_at.ensures.back in
    cc
