use Rattle.plain_text.proofs.Splitting.{position-IsFirstByte}
use Rattle.fml_reader.proofs.names.first_comma.Goals as goal

pub returns : goal.returns
returns c = position-IsFirstByte _ c.args.bytes.now c.memchr.result c.memchr.ensures
