-- What is read of a value: of its items and members, one after the other, and of the values of its keys.
use Rattle.std.specs.Prelude.{ℕ, suc, Bool, List as Seq, [], ◌∷◌, Option, Some, None, Result, Ok, codes, decimal, if◌then◌else◌}
use Rattle.json_tree.specs.Json.{Json, list, object, Items, no_items, item, Members, no_members, member, get}
use Rattle.fml_reader.specs.Outcome.{◌>>=◌, bad, under}
use Rattle.fml_reader.specs.declared.fault.ModuleRefusal.{ModuleRefusal}

-- each item, under its index
abbrev pub each_item : {A : Type 0} → (Json → Result A ModuleRefusal) → ℕ → Items → Result (Seq A) ModuleRefusal
each_item read i no_items = Ok []
each_item read i (item x xs) = do
  a ← under (decimal i) (read x)
  as' ← each_item read (suc i) xs
  Ok (a ∷ as')

-- a list, item by item
abbrev pub items_in : {A : Type 0} → (Json → Result A ModuleRefusal) → Json → Result (Seq A) ModuleRefusal
items_in read (list xs) = each_item read 0 xs
items_in read x = bad

-- a value whose key the test takes
abbrev pub keyed : {A : Type 0} → Bool → Result A ModuleRefusal → Result A ModuleRefusal
keyed fits read = if fits then read else bad

-- each member, under its key
abbrev pub each_member : {A : Type 0} → (Seq ℕ → Bool) → (Json → Result A ModuleRefusal) → Members → Result (Seq (Seq ℕ × A)) ModuleRefusal
each_member test read no_members = Ok []
each_member test read (member k x ms) = do
  a ← under k (keyed (test k) (read x))
  as' ← each_member test read ms
  Ok ((k, a) ∷ as')

-- an object, member by member
abbrev pub members_in : {A : Type 0} → (Seq ℕ → Bool) → (Json → Result A ModuleRefusal) → Json → Result (Seq (Seq ℕ × A)) ModuleRefusal
members_in test read (object ms) = each_member test read ms
members_in test read x = bad

-- what is read, as something that is there
abbrev pub there : {A : Type 0} → (Json → Result A ModuleRefusal) → Json → Result (Option A) ModuleRefusal
there read x = do
  a ← read x
  Ok (Some a)

-- what is read of the key's value, which has to be there
abbrev pub required : {A : Type 0} → Seq ℕ → (Json → Result A ModuleRefusal) → Option Json → Result A ModuleRefusal
required k read None = under k bad
required k read (Some x) = under k (read x)

-- what is read of the key's value, or what stands for it where it isn't there
abbrev pub optional : {A : Type 0} → Seq ℕ → (Json → Result A ModuleRefusal) → A → Option Json → Result A ModuleRefusal
optional k read without None = Ok without
optional k read without (Some x) = under k (read x)

-- what is read of a key's value, or of the second key's where the first isn't there
abbrev pub first_there : {A : Type 0} → Seq ℕ → Seq ℕ → (Json → Result A ModuleRefusal) → A → Option Json → Option Json → Result A ModuleRefusal
first_there plural single read without None other = optional single read without other
first_there plural single read without (Some x) other = under plural (read x)

-- the key with an `s`, or the one without where that isn't there
abbrev pub either : {A : Type 0} → Seq ℕ → Seq ℕ → (Json → Result A ModuleRefusal) → A → Json → Result A ModuleRefusal
either plural single read without x = first_there plural single read without (get plural x) (get single x)

-- a key of `types`, which may not be there
abbrev pub in_types : {A : Type 0} → Seq ℕ → (Json → Result A ModuleRefusal) → A → Option Json → Result A ModuleRefusal
in_types k read without None = Ok without
in_types k read without (Some x) = under (codes "types") (optional k read without (get k x))
