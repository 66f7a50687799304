-- Texts under names.
use Rattle.std.specs.Prelude.{ℕ, Bool, List, [], ◌∷◌, ◌++◌, map, Option, Some, None, bytes_eq, if◌then◌else◌}
use Rattle.json_tree.specs.Json.{Json, text, Members, no_members, member}
use Rattle.enrol_states.specs.Order.{Rise}

abbrev pub names_of : List (List ℕ × List ℕ) → List (List ℕ)
names_of ps = map (λ p. p.0) ps

-- each name is below those after it, by its bytes
abbrev pub AreInOrder : List (List ℕ × List ℕ) → Type 0
AreInOrder ps = Rise (names_of ps)

-- the text of the name, where it has one
abbrev pub text_with : List ℕ → List (List ℕ × List ℕ) → Option (List ℕ)
text_with name [] = None
text_with name (p ∷ ps) = if bytes_eq p.0 name then Some p.1 else text_with name ps

-- the name and its text, where the value is one and the name passes the test
abbrev pub text_where : (List ℕ → Bool) → List ℕ → Json → List (List ℕ × List ℕ)
text_where test name (text s) = if test name then (name, s) ∷ [] else []
text_where test name x = []

-- the members that have texts, of those whose names pass the test
abbrev pub texts_where : (List ℕ → Bool) → Members → List (List ℕ × List ℕ)
texts_where test no_members = []
texts_where test (member name x ms) = text_where test name x ++ texts_where test ms
