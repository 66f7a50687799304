-- What a map of rows is once a borrow of its listed rows has ended.
use Rattle.std.specs.Prelude.{◌≡◌, ⊤}
use Rattle.std.specs.Borrow.{MutBor, Fml, follows_so}
use mathlib.Core.Option.{none}
use Rattle.row_batches.specs.contracts.row_map.RowMap.{the_row}

-- it is as it was
abbrev pub StaysAsItWas : MutBor the_row.Denot → Fml
StaysAsItWas map = follows_so the_row the_row map.ghost_name none (λ _ _. ⊤) (λ new. new ≡ map.now)
