use Rattle.std.proofs.Common.{◌+◌, ◌≤◌, ◌++◌, length, sym, ap, ◌∙◌, subst}
use Rattle.row_batches.specs.RowRoom.{AreSoundRows}
use Rattle.row_batches.specs.Trees.{rows_in}
use Rattle.row_batches.proofs.row_map.RowMap.apply.Goals as goal

pub invariant_of-self : goal.invariant_of-self
invariant_of-self c =
    let inside = c.self.inside in
    let taken = c.apply_batch.ensures in
    record {
      sound = subst (λ l. AreSoundRows (l ++ rows_in c.apply_batch.result)) (sym taken.none) taken.sound;
      alone = λ some. absurd (some taken.none);
      count = taken.count ∙ ap (λ tree. length (rows_in tree) + length inside.spare.items) c.replace-tree.ensures.value ∙ c.self.invariant.count;
      forks_fit = c.self.invariant.forks_fit;
      listed_fit = subst (λ n. inside.forks ≤ n) (sym taken.same_listed_room) c.self.invariant.listed_fit;
      spare_fit = subst (λ n. inside.forks ≤ n) (sym taken.same_spare_room) c.self.invariant.spare_fit;
    }
