-- A slug that joins those that are opted out.
use Rattle.std.specs.Prelude.{◌≡◌, ℕ, false, List, Result, Ok, Err, IsTrue, ⊤}
use Rattle.std.specs.BTreeSet.{insert_key}
use Rattle.recipe_reader.specs.Payloads.{slug_cmp}
use Rattle.enrol_states.specs.Choices.{has_no_room}
use Rattle.enrol_states.specs.declared.choices.OptOutFault.{OptOutFault}
use Rattle.enrol_states.specs.declared.choices.OptOutFault.TheVariants as out_faults
use Rattle.sequences.specs.declared.next_list.NextList.{NextList}

-- the slugs with one more, if there is room; want of memory is the one free answer
abbrev pub Joins : List (List ℕ) → List ℕ → Result (NextList (List ℕ)) OptOutFault → Type 0
Joins slugs slug (Ok more) = (has_no_room slugs slug ≡ false) × (more.list ≡ insert_key slug_cmp slugs slug)
Joins slugs slug (Err out_faults.OptedOutLimit) = IsTrue (has_no_room slugs slug)
Joins slugs slug (Err out_faults.OutOfMemory) = ⊤
