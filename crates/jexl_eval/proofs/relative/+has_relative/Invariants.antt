use Rattle.std.proofs.Common.{◌≡◌, drop}
use Rattle.jexl_parser.specs.Tree.{any_relative, any_pair_relative}
use Rattle.jexl_parser.specs.View.{views, view_pairs}
use Rattle.jexl_eval.proofs.relative.+has_relative.Given as goal

abbrev pub invariant-any_relative-loop-node : goal.invariant-any_relative-loop-node
invariant-any_relative-loop-node l = any_relative (views l.nodes) ≡ any_relative (views (drop l.node-index l.nodes))

abbrev pub invariant-any_pair_relative-loop-node : goal.invariant-any_pair_relative-loop-node
invariant-any_pair_relative-loop-node l = any_pair_relative (view_pairs l.pairs) ≡ any_pair_relative (view_pairs (drop l.node-index l.pairs))
