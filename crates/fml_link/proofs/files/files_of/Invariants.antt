use Rattle.std.proofs.Common.{◌≡◌, ◌≤◌, ℕ, true, List, Ok, Some, length, take}
use Rattle.std.specs.Prelude.{slice_get}
use Rattle.host_model.specs.Shelf.{IsReached}
use Rattle.fml_imports.specs.Sound.{AreRead}
use Rattle.fml_link.specs.Asked.{names_of}
use Rattle.fml_link.specs.Files.{list_after, read_each}
use Rattle.fml_link.specs.Laws.{are_distinct}
use Rattle.fml_link.specs.Names.{AreMet}
use Rattle.fml_link.proofs.files.files_of.Given as goal

abbrev pub invariant-loop-place : goal.invariant-loop-place
invariant-loop-place g l = record {
  met : AreMet l.list;
  few : length l.list.list ≤ 64;
  first : slice_get l.list.list 0 ≡ Some (l.fn.root, l.fn.channel);
  distinct : are_distinct l.list.list ≡ true;
  listed : g.F.Shelf.tells → list_after (g.F.Shelf.file l.fn.shelf) l.fn.root l.fn.channel l.place ≡ Ok l.list.list;
  read : g.F.Shelf.tells → read_each (g.F.Shelf.file l.fn.shelf) (take l.place l.list.list) ≡ Ok l.files;
  modules : AreRead l.files;
  files : g.F.Shelf.tells → (other : List ℕ) → g.F.Shelf.file l.shelf other ≡ g.F.Shelf.file l.fn.shelf other;
  asked : IsReached g.F.Shelf.asks l.fn.shelf (names_of (take l.place l.list.list)) l.shelf;
  quiet : g.F.Shelf.faults l.shelf ≡ g.F.Shelf.faults l.fn.shelf;
}
