-- What contracts see of a table of transforms.
use Rattle.std.specs.Prelude.{◌≡◌, ℕ, Bool, List, map}
use Rattle.jexl_transforms.specs.Meaning.{has_name, is_standard}
use Rattle.jexl_transforms.specs.declared.table.TransformTable.{TransformTable}

-- the names, in the order in which they were put there
abbrev pub names_of : {kind : _} {stored : _} {calls : _} → TransformTable kind stored calls → List (List ℕ)
names_of table = map (λ entry. entry.name) table.entries.items

-- whether the table has a transform of this name
abbrev pub has_transform : {kind : _} {stored : _} {calls : _} → TransformTable kind stored calls → List ℕ → Bool
has_transform table name = has_name name (names_of table)

-- the table has the standard transforms and no others
abbrev pub HasStandardNames : {kind : _} {stored : _} {calls : _} → TransformTable kind stored calls → Type 0
HasStandardNames table = (name : List ℕ) → has_transform table name ≡ is_standard name
