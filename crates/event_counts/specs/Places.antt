-- Where a name stands among counts in order by name, or belongs.
pub use Rattle.sequences.specs.Order.{AreAbove, AreBelow}
use Rattle.std.specs.Prelude.{ℕ, List}
use Rattle.sequences.specs.Order as order
use Rattle.event_counts.specs.declared.name_counts.NameCounts.{NameCounts}
use Rattle.event_counts.specs.Sound.{name_of}

-- the counts at this place are those of the name
abbrev pub HasNameAt : List ℕ → List NameCounts → ℕ → Type 0
HasNameAt name ns place = order.HasTextAt name_of name ns place

-- there are no counts of the name, and they belong before those at this place
abbrev pub BelongsAt : List ℕ → List NameCounts → ℕ → Type 0
BelongsAt name ns place = order.BelongsAt name_of name ns place
