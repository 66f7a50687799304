-- The part of a list in which it may differ from that of before.
use Rattle.std.specs.Prelude.{◌≡◌, ◌≤◌, ◌+◌, List, length, take, drop, slice_range}
use Rattle.sequences.specs.declared.list_part.ListPart.{ListPart}

-- its items of the old list
abbrev pub part_of_old : {A : Type 0} → ListPart → List A → List A
part_of_old part xs = slice_range xs part.start (part.start + part.removed)

-- and of the new one
abbrev pub part_of_new : {A : Type 0} → ListPart → List A → List A
part_of_new part xs = slice_range xs part.start (part.start + part.added)

-- both lists are the same before the part and behind it
pub record IsPart {A : Type 0} (part : ListPart) (old new : List A) : Type 0 where
  pub front : take part.start old ≡ take part.start new
  pub behind : drop (part.start + part.removed) old ≡ drop (part.start + part.added) new
  pub old_end : part.start + part.removed ≤ length old
  pub new_end : part.start + part.added ≤ length new
