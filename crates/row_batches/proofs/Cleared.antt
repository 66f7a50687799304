-- A batch that begins with a clear is that of the rows that it makes.
use Rattle.std.proofs.Common.{◌≡◌, Bool, true, List, [], ◌∷◌, map, refl, sym, ap, ◌∙◌, subst}
use Rattle.std.specs.List.{AllByRecursion}
use Rattle.row_batches.specs.Batch.{ChangeList, IsBatch, IsPut, whole_of}
use Rattle.row_batches.specs.Rows.{Rise, AreRows, key_of, key_in, after_changes}
use Rattle.row_batches.specs.declared.change.RowChange.{RowChange}
use Rattle.row_batches.specs.declared.change.RowChange.TheVariants.{Put, Delete}
use Rattle.row_batches.specs.declared.store_row.StoreRow.{StoreRow}
use Rattle.row_batches.proofs.Walks.{made_of_none}

-- the rows of which changes are the puts
record ArePuts (changes : List RowChange) : Type 0 where
  rows : List StoreRow
  are : changes ≡ map Put rows

puts_are : (changes : List RowChange) → AllByRecursion IsPut changes → ArePuts changes
puts_are [] puts = record { rows = []; are = refl }
puts_are (Put r ∷ cs) puts = let behind = puts_are cs puts.1 in record { rows = r ∷ behind.rows; are = ap (λ (l : List RowChange). Put r ∷ l) behind.are }
puts_are (Delete key ∷ cs) puts = absurd puts.0

same_keys : (rows : List StoreRow) → map key_in (map Put rows) ≡ map key_of rows
same_keys [] = refl
same_keys (r ∷ rs) = ap (λ l. r.key ∷ l) (same_keys rs)

puts_made : (changes : List RowChange) → Rise (map key_in changes) → AllByRecursion IsPut changes → changes ≡ map Put (after_changes changes [])
puts_made changes rise puts =
    let found = puts_are changes puts in
    let rows_rise : AreRows found.rows = subst Rise (ap (map key_in) found.are ∙ same_keys found.rows) rise in
    found.are ∙ ap (map Put) (sym (made_of_none found.rows rows_rise) ∙ ap (λ (cs : List RowChange). after_changes cs []) (sym found.are))

made_whole : (clear : Bool) (changes : List RowChange) → IsBatch (record { clear = clear; changes = changes }) → clear ≡ true → record { clear = clear; changes = changes } ≡ whole_of (after_changes changes [])
made_whole clear changes rules is =
    let are = puts_made changes rules.rise (rules.puts is) in
    λ i. record { clear = is i; changes = are i }

pub cleared_is_whole : (batch : ChangeList) → IsBatch batch → batch.clear ≡ true → batch ≡ whole_of (after_changes batch.changes [])
cleared_is_whole batch rules is = made_whole batch.clear batch.changes rules is

-- rows are known by the batch that makes them
pub one_whole : (rows others : List StoreRow) → AreRows rows → AreRows others → whole_of rows ≡ whole_of others → rows ≡ others
one_whole rows others rise others_rise same = sym (made_of_none rows rise) ∙ ap (λ (b : ChangeList). after_changes b.changes []) same ∙ made_of_none others others_rise
