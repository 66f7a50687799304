-- The rows of preferences, in the order of their keys.
use Rattle.std.specs.Prelude.{ℕ, List, [], ◌∷◌, ◌++◌, length, map, Option, Some, None}
use Rattle.std.specs.List.{flat_map}
use Rattle.json_tree.specs.Bytes.{text_of}
use Rattle.json_tree.specs.Tree.{json_of}
use Rattle.json_tree.specs.declared.tree.Tree.{Tree}
use Rattle.row_batches.specs.declared.store_row.StoreRow.{StoreRow}
use Rattle.pref_bindings.specs.declared.preference.Hold.{Hold}
use Rattle.pref_bindings.specs.declared.preference.Preference.{Preference}

-- a value's canonical text
unfoldable pub value_text : Tree → List ℕ
value_text v = text_of (json_of v)

-- nothing where there was no value
abbrev pub before_text : Option Tree → List ℕ
before_text None = []
before_text (Some v) = value_text v

-- the length of the holder, the holder, and the value of before
abbrev pub hold_text : List ℕ → Option Tree → List ℕ
hold_text holder before = length holder ∷ (holder ++ before_text before)

-- nothing where there is no hold
abbrev pub hold_value : Option Hold → List ℕ
hold_value None = []
hold_value (Some h) = hold_text h.holder h.before

-- the letter h and the name
abbrev pub hold_key : List ℕ → List ℕ
hold_key name = 104 ∷ name

-- the letter y and the name
abbrev pub value_key : List ℕ → List ℕ
value_key name = 121 ∷ name

abbrev pub value_row : Preference → StoreRow
value_row p = record { key = value_key p.name; value = value_text p.value }

-- a row where the preference is held
abbrev pub hold_row : List ℕ → Option Hold → List StoreRow
hold_row name None = []
hold_row name (Some h) = record { key = hold_key name; value = hold_text h.holder h.before } ∷ []

abbrev pub hold_rows : List Preference → List StoreRow
hold_rows ps = flat_map (λ p. hold_row p.name p.hold) ps

abbrev pub value_rows : List Preference → List StoreRow
value_rows ps = map value_row ps

abbrev pub rows_of : List Preference → List StoreRow
rows_of ps = hold_rows ps ++ value_rows ps
