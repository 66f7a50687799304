-- What the transforms refuse.
use Rattle.std.proofs.Common.{◌≡◌, ◌==◌, ◌≤◌, false, List, [], ◌∷◌, length, map, None, refl, arith}
use Rattle.json_tree.specs.Json.{Json, Members, null, truth, whole, odd, text, list, object}
use Rattle.jexl_value.specs.Value.{as_json}
use Rattle.jexl_value.specs.declared.value.Value.{Value}
use Rattle.jexl_transforms.specs.Events.{event_seen_value}
use Rattle.jexl_transforms.specs.Meaning.{date_value}

date_taken-more : (x : Json) (y : Json) (ys : List Json) → date_value x (y ∷ ys) ≡ None
date_taken-more null y ys = refl
date_taken-more (truth b) y ys = refl
date_taken-more (whole n) y ys = refl
date_taken-more odd y ys = refl
date_taken-more (text s) y ys = refl
date_taken-more (list zs) y ys = refl
date_taken-more (object ms) y ys = refl

-- a date with arguments
pub date_taken : (x : Json) (vs : List Value) → (length vs == 0) ≡ false → date_value x (map as_json vs) ≡ None
date_taken x [] h = absurd (cc)
date_taken x (v ∷ vs) h = date_taken-more x (as_json v) (map as_json vs)

-- more than an interval and an index
pub seen_of_many : (attributes : Members) (event : Json) (vs : List Value) → 3 ≤ length vs → event_seen_value attributes event (map as_json vs) ≡ None
seen_of_many attributes event [] h = absurd (omega arith)
seen_of_many attributes event (v ∷ []) h = absurd (omega arith)
seen_of_many attributes event (v ∷ w ∷ []) h = absurd (omega arith)
seen_of_many attributes event (v ∷ w ∷ u ∷ vs) h = refl
