-- What the parser keeps of trees.
use Rattle.std.specs.Prelude.{option_map}
use Rattle.jexl_parser.specs.declared.part.Part.{Part}
use Rattle.jexl_parser.specs.declared.part.Parts.{Parts}
use Rattle.jexl_parser.specs.declared.part.PairParts.{PairParts}
use Rattle.jexl_parser.specs.Tree.{Items, Members}
use Rattle.jexl_parser.specs.Seen.{Seen}
use Rattle.jexl_parser.specs.View.{view, views, view_pairs}

abbrev pub see : Part → Seen
see p = record { tree = option_map (λ b. view b.value) p.tree; relative = p.relative }

abbrev pub see_list : Parts → Seen
see_list p = record { tree = option_map (λ v. Items (views v.items)) p.trees; relative = p.relative }

abbrev pub see_members : PairParts → Seen
see_members p = record { tree = option_map (λ v. Members (view_pairs v.items)) p.pairs; relative = p.relative }
