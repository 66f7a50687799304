-- What is known of the parts that are kept.
use Rattle.std.specs.Prelude.{◌≡◌, ℕ, Bool, List, [], ◌∷◌, map, Option, Some, None, option_map, Ok, slice_get, ⊤}
use Rattle.json_tree.specs.Json.{Json, Members}
use Rattle.jexl_parser.specs.Tree.{Tree}
use Rattle.jexl_value.specs.Value.{as_json}
use Rattle.jexl_eval.specs.declared.known.Known.{Known}
use Rattle.jexl_eval.specs.Meaning.{meaning}

-- the values by their places, where they are known
abbrev pub values_of : Known → List (Option Json)
values_of known = map (option_map (λ r. as_json r.value)) known.values.items

-- none is known
abbrev pub AreUnknown : {X : Type 0} → List (Option X) → Type 0
AreUnknown [] = ⊤
AreUnknown (None ∷ os) = AreUnknown os
AreUnknown (Some x ∷ os) = ⊥

-- what is known of a part is what it means for each item
abbrev pub AreKnown : (List ℕ → Bool) → Members → List Tree → List (Option Json) → Type 0
AreKnown has attributes parts values = (k : ℕ) (t : Tree) (v : Json) → slice_get parts k ≡ Some t → slice_get values k ≡ Some (Some v) → (x : Json) → meaning has attributes x t ≡ Ok v
