use Rattle.std.proofs.Common.{◌≡◌, ◌≤◌, ◌+◌, length}
use Rattle.jexl_parser.specs.declared.node.TheConstants.{MAX_HEIGHT}
use Rattle.jexl_parser.specs.Kinds.{kinds_of}
use Rattle.jexl_parser.specs.Negations.{read_with_nots}
use Rattle.jexl_parser.specs.Reading.{read_of, AUnary}
use Rattle.jexl_parser.proofs.negation.bangs_at.Given as goal

abbrev pub invariant-loop-after : goal.invariant-loop-after
invariant-loop-after l = record {
  same : read_of MAX_HEIGHT AUnary (kinds_of l.tokens) ≡ read_with_nots l.count (read_of MAX_HEIGHT AUnary (kinds_of l.rest));
  short : l.count + length l.rest ≤ length l.tokens;
}

abbrev pub decreases-loop-after : goal.decreases-loop-after
decreases-loop-after l = length l.rest
