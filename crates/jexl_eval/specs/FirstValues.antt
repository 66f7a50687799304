-- What is meant once a first value is had.
use Rattle.std.specs.Prelude.{ℕ, List, [], Result, Ok}
use Rattle.json_tree.specs.Json.{Json, list, items_of}
use Rattle.jexl_parser.specs.declared.node.BinarySign.{BinarySign}
use Rattle.jexl_eval.specs.Elements.{index}
use Rattle.jexl_eval.specs.Faults.{Fault, ◌>>=◌}
use Rattle.jexl_eval.specs.Meaning.{unless_decided, kept, with_members}
use Rattle.jexl_eval.specs.Operations.{decided, operate, filter_items}

-- the members that get the values that are meant
abbrev pub members_meant : Result (List (List ℕ × Json)) Fault → Result (List (List ℕ × Json)) Fault
members_meant values = values >>= λ ms. Ok (with_members [] ms)

-- the part of a value at the key that is meant
abbrev pub index_meant : Json → Result Json Fault → Result Json Fault
index_meant x key = key >>= λ k. Ok (index x k)

-- the items of a value that a condition keeps
abbrev pub filter_meant : (Json → Result Json Fault) → Json → Result Json Fault
filter_meant condition x = filter_items x >>= λ xs. kept condition xs >>= λ ys. Ok (list (items_of ys))

-- what an operator makes of the left value and what is meant to its right
abbrev pub operation_meant : BinarySign → Json → Result Json Fault → Result Json Fault
operation_meant o x right = unless_decided (decided o x) (right >>= λ y. operate o x y)
