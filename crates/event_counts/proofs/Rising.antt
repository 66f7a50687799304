-- What is made of names in order is in order itself.
use Rattle.std.proofs.Common.{◌≡◌, ℕ, zero, suc, ◌<◌, List, [], ◌∷◌, map, length, get_or, take, Less, refl, arith}
use Rattle.std.specs.List.Sorted.{IsStrictlySortedBy}
use Rattle.json_tree.specs.Json.{IsAbove}
use Rattle.row_batches.specs.Rows.{AreRows}
use Rattle.row_batches.proofs.RowOrder.{rise_section}
use Rattle.event_counts.specs.declared.name_counts.NameCounts.{NameCounts}
use Rattle.event_counts.specs.Rows.{row_of, rows_of}
use Rattle.event_counts.specs.Sound.{AreInOrder, name_cmp, name_of}
use Rattle.event_counts.specs.View.{member_at}
use Rattle.sequences.proofs.Searching.{text_at}

-- the name at a place is above the keys of the members before it
pub above_members : (moment : ℕ) (ns : List NameCounts) (i : ℕ) (d : NameCounts) → i < length ns → AreInOrder ns → IsAbove (get_or ns i d).name (map (member_at moment) (take i ns))
unfolding IsStrictlySortedBy
above_members moment [] i d less order = absurd (omega arith)
above_members moment (n ∷ ns) zero d less order = tt
above_members moment (n ∷ ns) (suc i) d less order =
    (text_at (λ t. name_cmp n.name t ≡ Less) name_of ns i d (omega arith) order.0, above_members moment ns i d (omega arith) order.1)

-- the rows of names in order are in the order of their keys
pub rows_rise : (ns : List NameCounts) → AreInOrder ns → AreRows (rows_of ns)
rows_rise ns order = rise_section name_of row_of (λ n m. refl) ns order
