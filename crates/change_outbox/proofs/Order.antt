-- The rows of an outbox are in the order of their keys.
use Rattle.std.proofs.Common.{Less, ◌≡◌, ℕ, ◌+◌, ◌-◌, ◌^◌, ◌<◌, ◌≤◌, Bool, true, false, List, [], ◌∷◌, ◌++◌, map, length, sym, subst, arith}
use Rattle.std.specs.Prelude.{nat_lt, if◌then◌else◌}
use Rattle.std.specs.List.Sorted.{IsStrictlySortedBy}
use Rattle.row_batches.specs.Rows.{AreRows, key_cmp}
use Rattle.row_batches.proofs.RowOrder.{IsBelow}
use Rattle.change_outbox.specs.declared.change.Change.{Change}
use Rattle.change_outbox.specs.Contents.{Contents, AreNumberedFrom, IsNumbered, last_number}
use Rattle.change_outbox.specs.Rows.{change_key, change_row, next_row, rows_of}
use Rattle.change_outbox.proofs.ByteOrder.{keys_rise, next_key_first}

pub below_changes : (a n : ℕ) (cs : List Change) → a < n → n + length cs ≤ 2 ^ 64 → AreNumberedFrom n cs → IsBelow (change_key a) (map change_row cs)
below_changes a n [] less fits are = tt
below_changes a n (c ∷ cs) less fits are =
    let first : key_cmp (change_key a) (change_key c.number) ≡ Less = subst (λ m. key_cmp (change_key a) (change_key m) ≡ Less) (sym are.0) (keys_rise a n less (omega arith)) in
    (first, below_changes a (n + 1) cs (omega arith) (omega arith) are.1)

pub changes_rise : (n : ℕ) (cs : List Change) → n + length cs ≤ 2 ^ 64 → AreNumberedFrom n cs → AreRows (map change_row cs)
unfolding IsStrictlySortedBy
changes_rise n [] fits are = tt
changes_rise n (c ∷ cs) fits are =
    let first = subst (λ m. IsBelow (change_key m) (map change_row cs)) (sym are.0) (below_changes n (n + 1) cs (omega arith) (omega arith) are.1) in
    (first, changes_rise (n + 1) cs (omega arith) are.1)

pub next_below : (cs : List Change) → IsBelow (120 ∷ []) (map change_row cs)
next_below [] = tt
next_below (c ∷ cs) = (next_key_first c.number, next_below cs)

rise_at : (b : Bool) (next : ℕ) (cs : List Change) → AreRows (map change_row cs) → AreRows ((if b then next_row next ∷ [] else []) ++ map change_row cs)
unfolding IsStrictlySortedBy
rise_at true next cs rise = (next_below cs, rise)
rise_at false next cs rise = rise

pub rows_rise : (o : Contents) → IsNumbered o → AreRows (rows_of o)
rows_rise o is =
    let first : length o.entries < o.next = is.first in
    let last : o.next ≤ last_number = is.last in
    rise_at (nat_lt 1 o.next) o.next o.entries (changes_rise (o.next - length o.entries) o.entries (omega (arith, first, last)) is.numbers)
