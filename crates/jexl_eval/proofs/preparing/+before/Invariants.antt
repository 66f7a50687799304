use Rattle.std.proofs.Common.{drop}
use Rattle.jexl_eval.specs.Places.{trees_of, Extends, HaveAllPlaces, HavePairPlaces}
use Rattle.jexl_eval.proofs.preparing.+before.Given as goal

abbrev pub invariant-each-loop-index : goal.invariant-each-loop-index
invariant-each-loop-index l = record {
  grows : Extends (trees_of l.initial.parts.items) (trees_of l.parts.items);
  places : HaveAllPlaces (trees_of l.parts.items) (drop l.index l.nodes) l.places;
}

abbrev pub invariant-each_member-loop-index : goal.invariant-each_member-loop-index
invariant-each_member-loop-index l = record {
  grows : Extends (trees_of l.initial.parts.items) (trees_of l.parts.items);
  places : HavePairPlaces (trees_of l.parts.items) (drop l.index l.pairs) l.places;
}
