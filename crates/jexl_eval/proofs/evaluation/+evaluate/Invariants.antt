use Rattle.std.proofs.Common.{◌≡◌, [], drop}
use Rattle.json_tree.specs.Json.{members_of}
use Rattle.jexl_parser.specs.View.{view, views, view_pairs}
use Rattle.jexl_value.specs.Value.{as_json}
use Rattle.jexl_eval.specs.Meaning.{meaning}
use Rattle.jexl_eval.specs.Parts.{values_of, AreKnown}
use Rattle.jexl_eval.specs.Places.{trees_of, AllFit, PairsFit}
use Rattle.jexl_eval.proofs.Lists.{of_nodes, onto, of_pairs, into, kept_of}
use Rattle.jexl_eval.proofs.evaluation.+evaluate.Given as goal

abbrev pub invariant-each-loop-node : goal.invariant-each-loop-node
invariant-each-loop-node g l = record {
  same : of_nodes (g.C.TransformCalls.has l.scene.table.now) (members_of l.scene.attributes.now.pairs) (as_json l.scene.current.now) l.nodes
      ≡ onto l.values (of_nodes (g.C.TransformCalls.has l.scene.table.now) (members_of l.scene.attributes.now.pairs) (as_json l.scene.current.now) (drop l.node-index l.nodes));
  fits : AllFit (trees_of l.scene.parts.now) (views (drop l.node-index l.nodes)) l.places;
  known : AreKnown (g.C.TransformCalls.has l.scene.table.now) (members_of l.scene.attributes.now.pairs) (trees_of l.scene.parts.now) (values_of l.known);
}

abbrev pub invariant-each_member-loop-name : goal.invariant-each_member-loop-name
invariant-each_member-loop-name g l = record {
  same : into [] (of_pairs (g.C.TransformCalls.has l.scene.table.now) (members_of l.scene.attributes.now.pairs) (as_json l.scene.current.now) l.pairs)
      ≡ into l.members (of_pairs (g.C.TransformCalls.has l.scene.table.now) (members_of l.scene.attributes.now.pairs) (as_json l.scene.current.now) (drop l.name-index l.pairs));
  fits : PairsFit (trees_of l.scene.parts.now) (view_pairs (drop l.name-index l.pairs)) l.places;
  known : AreKnown (g.C.TransformCalls.has l.scene.table.now) (members_of l.scene.attributes.now.pairs) (trees_of l.scene.parts.now) (values_of l.known);
}

abbrev pub invariant-filtered-loop-item : goal.invariant-filtered-loop-item
invariant-filtered-loop-item g l = record {
  same : kept_of (λ x. meaning (g.C.TransformCalls.has l.scene.table.now) (members_of l.scene.attributes.now.pairs) x (view l.condition)) l.items
      ≡ onto l.kept (kept_of (λ x. meaning (g.C.TransformCalls.has l.scene.table.now) (members_of l.scene.attributes.now.pairs) x (view l.condition)) (drop l.item-index l.items));
  known : AreKnown (g.C.TransformCalls.has l.scene.table.now) (members_of l.scene.attributes.now.pairs) (trees_of l.scene.parts.now) (values_of l.known);
}
