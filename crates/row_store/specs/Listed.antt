-- What a row store is once a borrow of its listed rows has ended.
use Rattle.std.specs.Prelude.{◌≡◌, ⊤}
use Rattle.std.specs.Borrow.{MutBor, Fml, follows_so}
use mathlib.Core.Option.{none}
use Rattle.row_store.specs.contracts.store.RowStore.{the_row}

-- it is as it was
abbrev pub StaysAsItWas : MutBor the_row.Denot → Fml
StaysAsItWas store = follows_so the_row the_row store.ghost_name none (λ _ _. ⊤) (λ new. new ≡ store.now)
