-- Values are equal exactly where they are one.
use Rattle.std.proofs.Common.{◌≡◌, ap}
use Rattle.std.specs.Bool.{Decides}
use Rattle.std.specs.Cmp.{IsEquivalence, decided}
use Rattle.json_tree.specs.Equal.{json_eq}
use Rattle.json_tree.specs.Equals.{json_eq-Decides}
use Rattle.jexl_value.specs.Value.{as_json}
use Rattle.jexl_value.specs.declared.value.Value.{Value}
use Rattle.jexl_value.specs.Inverse.{as_json-injective}

pub values-Decide : (v w : Value) → Decides (json_eq (as_json v) (as_json w)) (v ≡ w)
values-Decide v w =
    (λ e. as_json-injective v w ((json_eq-Decides (as_json v) (as_json w)).0 e), λ same. (json_eq-Decides (as_json v) (as_json w)).1 (ap as_json same))

pub value_equivalence : IsEquivalence (λ v w. json_eq (as_json v) (as_json w))
value_equivalence = decided _ values-Decide
