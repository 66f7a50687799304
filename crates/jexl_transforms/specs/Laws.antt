-- Which meanings depend on the attributes.
use Rattle.std.specs.Prelude.{◌≡◌, ℕ, true, List}
use Rattle.json_tree.specs.Json.{Json, Members}
use Rattle.jexl_transforms.specs.Meaning.{has_name, meaning, names_by_subject}

-- what these names mean is the same beside all attributes
abbrev pub NeedsNoAttributes : Type 0
NeedsNoAttributes =
    (name : List ℕ) (attributes others : Members) (subject : Json) (arguments : List Json) → has_name name names_by_subject ≡ true
    → meaning name attributes subject arguments ≡ meaning name others subject arguments
