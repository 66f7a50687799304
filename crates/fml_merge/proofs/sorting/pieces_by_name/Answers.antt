use Rattle.std.proofs.Common.{rules, ap, ◌∙◌}
use Rattle.std.proofs.lemmas.Cmp.{nat_list_cmp_total}
use Rattle.std.proofs.lemmas.List.Sorted.{ranks_by}
use Rattle.std.proofs.lemmas.Fn.{always_returns_same}
use Rattle.fml_merge.specs.Layers.{trees_under}
use Rattle.fml_merge.specs.declared.sorting.Piece.{Piece}
use Rattle.fml_merge.proofs.Sorted.{by_name, climbing, stable_under}
use Rattle.fml_merge.proofs.sorting.pieces_by_name.Goals as goal

pub returns : goal.returns
returns c =
    let after = c.sort_by.new.self.items in
    record {
      climbing = climbing after (c.in_ok-sort_by.ensures.sorted by_name (ranks_by nat_list_cmp_total (λ (p : Piece). p.name.now)) (always_returns_same _ _ _ (λ a r f k. search rules)));
      trees = λ name. stable_under c.in_ok-pieces.pieces.items after (c.in_ok-sort_by.ensures.stable by_name (ranks_by nat_list_cmp_total (λ (p : Piece). p.name.now)) (always_returns_same _ _ _ (λ a r f k. search rules))) name
          ∙ ap (trees_under name) c.in_ok-pieces.ensures;
    }
