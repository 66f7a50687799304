use Rattle.plain_text.proofs.Splitting.{position-IsFirstByte}
use Rattle.plain_text.proofs.spans.line_end.Goals as goal

pub returns-in_default : goal.returns-in_default
returns-in_default c = position-IsFirstByte _ c.args.bytes.now c.memchr.result c.memchr.ensures
