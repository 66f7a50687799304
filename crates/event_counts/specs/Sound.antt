-- Which counts are sound.
use Rattle.std.specs.Prelude.{◌≡◌, ◌≤◌, ◌<◌, ◌^◌, ℕ, List, IsTrue, length, map}
use Rattle.std.specs.Cmp.Lexicographic.{slice_cmp}
use Rattle.std.specs.List.{AllByRecursion}
use Rattle.std.specs.List.Sorted.{IsStrictlySortedBy}
use Rattle.std.specs.Ordering.{nat_cmp}
use Rattle.std.specs.declared.cmp.Ordering.{Ordering}
use Rattle.plain_text.specs.Names.{is_name}
use Rattle.event_counts.specs.declared.interval.Interval.{Interval}
use Rattle.event_counts.specs.declared.interval.Interval.TheVariants.{Hours, Days, Weeks}
use Rattle.event_counts.specs.declared.name_counts.NameCounts.{NameCounts}
use Rattle.event_counts.specs.Intervals.{entry_count}

-- a list of counts is full, and each has room in four bytes
pub record AreCounts (i : Interval) (xs : List ℕ) : Type 0 where
  pub full : length xs ≡ entry_count i
  pub room : AllByRecursion (λ x. x < 2 ^ 32) xs

pub record HaveCounts (n : NameCounts) : Type 0 where
  pub hours : AreCounts Hours n.hours
  pub days : AreCounts Days n.days
  pub weeks : AreCounts Weeks n.weeks

-- the latest moment is in the year 9999 or before it
pub record IsSoundName (n : NameCounts) : Type 0 where
  pub name : IsTrue (is_name n.name)
  pub latest : n.latest ≤ 253402300799
  pub lists : HaveCounts n

abbrev pub name_cmp : List ℕ → List ℕ → Ordering
name_cmp a b = slice_cmp nat_cmp a b

abbrev pub name_of : NameCounts → List ℕ
name_of n = n.name

-- each name is below those after it
abbrev pub AreInOrder : List NameCounts → Type 0
AreInOrder ns = IsStrictlySortedBy name_cmp (map name_of ns)

pub record IsSound (ns : List NameCounts) : Type 0 where
  pub most : length ns ≤ 64
  pub order : AreInOrder ns
  pub names : AllByRecursion IsSoundName ns
