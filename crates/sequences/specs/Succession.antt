-- Lists that are made one of the other, by the change of one item.
use Rattle.std.specs.Prelude.{◌≡◌, ◌<◌, ◌≤◌, List, Option, Some, None, length, slice_set, ⊤}
use Rattle.std.specs.List.{insert, remove}
use Rattle.std.specs.declared.rc.Rc.{Rc}
use Rattle.sequences.specs.declared.predecessor.ItemChange.{ItemChange}
use Rattle.sequences.specs.declared.predecessor.ItemChange.TheVariants.{Insertion, Replacement, Removal}
use Rattle.sequences.specs.declared.predecessor.Predecessor.{Predecessor}

-- the change makes `made` of the items, with some item that comes
abbrev pub Makes : {A : Type 0} → ItemChange → List A → List A → Type 0
Makes {A} (Insertion place) items made = (place ≤ length items) × ((item : A) × (made ≡ insert items place item))
Makes {A} (Replacement place) items made = (place < length items) × ((item : A) × (made ≡ slice_set items place item))
Makes (Removal place) items made = (place < length items) × (made ≡ remove items place)

-- the items were made of those of the predecessor, where there is one
abbrev pub Succeeds : {A Z : Type 0} → Option (Rc (Predecessor A) Z) → List A → Type 0
Succeeds None made = ⊤
Succeeds (Some p) made = Makes p.value.change p.value.items.value made
