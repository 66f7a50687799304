use Rattle.std.proofs.Common.{◌≡◌, ◌≤◌, length}
use Rattle.jexl_parser.specs.declared.depth.TheConstants.{MAX_DEPTH}
use Rattle.jexl_parser.specs.Counting.{deep_from}
use Rattle.jexl_parser.specs.Kinds.{kinds_of}
use Rattle.jexl_parser.proofs.depth.is_too_deep.Given as goal

abbrev pub invariant-loop-first : goal.invariant-loop-first
invariant-loop-first l = record {
  same : deep_from 0 0 0 (kinds_of l.tokens) ≡ deep_from l.nested l.bangs l.questions (kinds_of l.rest);
  few_open : l.nested ≤ MAX_DEPTH;
  few_bangs : l.bangs ≤ MAX_DEPTH;
  few_questions : l.questions ≤ MAX_DEPTH;
}

abbrev pub decreases-loop-first : goal.decreases-loop-first
decreases-loop-first l = length l.rest
