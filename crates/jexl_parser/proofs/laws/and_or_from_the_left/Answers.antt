use Rattle.jexl_parser.proofs.OrThenAnd.{and_or_from_the_left}
use Rattle.jexl_parser.proofs.laws.and_or_from_the_left.Goals as goal

pub returns : goal.returns
returns c = and_or_from_the_left
