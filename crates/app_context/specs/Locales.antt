-- The language and the region of a locale.
use Rattle.std.specs.Prelude.{ℕ, ◌==◌, Bool, List, Option, Some, None, if◌then◌else◌}
use Rattle.std.specs.List.{list_any, before_first, after_first}

-- a `-`
abbrev pub is_dash : ℕ → Bool
is_dash b = b == 45

-- what stands before the first `-`, and all where there is none
abbrev pub language_of : List ℕ → List ℕ
language_of locale = before_first is_dash locale

-- what stands after the first `-`, where there is one
abbrev pub region_of : List ℕ → Option (List ℕ)
region_of locale = if list_any is_dash locale then Some (after_first is_dash locale) else None
