use Rattle.std.proofs.Common.{◌≡◌, ◌≤◌, ◌<◌, ◌+◌, ◌*◌, length}
use Rattle.jexl_parser.specs.declared.node.TheConstants.{MAX_HEIGHT}
use Rattle.jexl_parser.specs.Tree.{Members, no_pair}
use Rattle.jexl_parser.specs.Seen.{cap}
use Rattle.jexl_parser.specs.Reading.{read_of, Climb, Loop, APostfix, Suffixes, SomeExprs, MoreExprs, APair, MorePairs}
use Rattle.jexl_parser.specs.Kept.{see, see_list, see_members}
use Rattle.jexl_parser.specs.Kinds.{kinds_of}
use Rattle.jexl_parser.proofs.parser.+parser.Given as goal

abbrev pub decreases-up_to : goal.decreases-up_to
decreases-up_to l = 16 * length l.tokens.now + 7

abbrev pub decreases-to_brace : goal.decreases-to_brace
decreases-to_brace l = 16 * length l.tokens.now + 7

abbrev pub decreases-some_exprs : goal.decreases-some_exprs
decreases-some_exprs l = 16 * length l.tokens.now + 6

abbrev pub decreases-some_pairs : goal.decreases-some_pairs
decreases-some_pairs l = 16 * length l.tokens.now + 6

abbrev pub decreases-one_pair : goal.decreases-one_pair
decreases-one_pair l = 16 * length l.tokens.now + 5

abbrev pub decreases-expr : goal.decreases-expr
decreases-expr l = 16 * length l.tokens.now + 5

abbrev pub decreases-choice : goal.decreases-choice
decreases-choice l = 16 * length l.tokens.now + 6

abbrev pub decreases-climb : goal.decreases-climb
decreases-climb l = 16 * length l.tokens.now + 4

abbrev pub decreases-unary : goal.decreases-unary
decreases-unary l = 16 * length l.tokens.now + 3

abbrev pub decreases-postfix : goal.decreases-postfix
decreases-postfix l = 16 * length l.tokens.now + 2

abbrev pub decreases-primary : goal.decreases-primary
decreases-primary l = 16 * length l.tokens.now + 1

abbrev pub decreases-with_suffix : goal.decreases-with_suffix
decreases-with_suffix l = 16 * length l.tokens.now + 7

abbrev pub decreases-with_bracket : goal.decreases-with_bracket
decreases-with_bracket l = 16 * length l.tokens.now + 6

abbrev pub decreases-with_transform : goal.decreases-with_transform
decreases-with_transform l = 16 * length l.tokens.now + 6

abbrev pub decreases-arguments : goal.decreases-arguments
decreases-arguments l = 16 * length l.tokens.now

abbrev pub decreases-opened : goal.decreases-opened
decreases-opened l = 16 * length l.tokens.now + 9

abbrev pub decreases-group : goal.decreases-group
decreases-group l = 16 * length l.tokens.now + 8

abbrev pub decreases-array : goal.decreases-array
decreases-array l = 16 * length l.tokens.now + 8

abbrev pub decreases-braces : goal.decreases-braces
decreases-braces l = 16 * length l.tokens.now + 8

abbrev pub invariant-climb-loop-sign : goal.invariant-climb-loop-sign
invariant-climb-loop-sign l = record {
  same : read_of MAX_HEIGHT (Climb l.lowest) (kinds_of l.tokens) ≡ read_of MAX_HEIGHT (Loop l.lowest (see l.left)) (kinds_of l.rest);
  short : length l.rest ≤ length l.tokens;
}

abbrev pub decreases-climb-loop-sign : goal.decreases-climb-loop-sign
decreases-climb-loop-sign l = length l.rest

abbrev pub invariant-postfix-loop-suffix : goal.invariant-postfix-loop-suffix
invariant-postfix-loop-suffix l = record {
  same : read_of MAX_HEIGHT APostfix (kinds_of l.tokens) ≡ read_of MAX_HEIGHT (Suffixes (see l.subject)) (kinds_of l.rest);
  short : length l.rest ≤ length l.tokens;
}

abbrev pub decreases-postfix-loop-suffix : goal.decreases-postfix-loop-suffix
decreases-postfix-loop-suffix l = length l.rest

abbrev pub invariant-some_exprs-loop-next : goal.invariant-some_exprs-loop-next
invariant-some_exprs-loop-next l = record {
  same : read_of MAX_HEIGHT SomeExprs (kinds_of l.tokens) ≡ read_of MAX_HEIGHT (MoreExprs (see_list l.items)) (kinds_of l.rest);
  short : length l.rest ≤ length l.tokens;
}

abbrev pub decreases-some_exprs-loop-next : goal.decreases-some_exprs-loop-next
decreases-some_exprs-loop-next l = length l.rest

abbrev pub invariant-some_pairs-loop-next : goal.invariant-some_pairs-loop-next
invariant-some_pairs-loop-next l = record {
  same : read_of MAX_HEIGHT (APair (cap MAX_HEIGHT (Members no_pair))) (kinds_of l.tokens) ≡ read_of MAX_HEIGHT (MorePairs (see_members l.pairs)) (kinds_of l.rest);
  short : length l.rest < length l.tokens;
}

abbrev pub decreases-some_pairs-loop-next : goal.decreases-some_pairs-loop-next
decreases-some_pairs-loop-next l = length l.rest
