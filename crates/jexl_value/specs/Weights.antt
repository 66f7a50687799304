-- Each child is less deep than what holds it.
use Rattle.std.specs.Prelude.{ℕ, ◌≤◌, max, List as Seq, [], ◌∷◌, map}
use Rattle.std.proofs.Common.{arith}
use Rattle.json_tree.specs.Json.{items_of, members_of, depth, items_depth, members_depth}
use Rattle.jexl_value.specs.Value.{as_json, member_of}
use Rattle.jexl_value.specs.declared.value.Value.{Value}
use Rattle.jexl_value.specs.declared.value.Value.TheVariants.{Null, Truth, Whole, Text, List, Object}
use Rattle.jexl_value.specs.declared.value.NamedValues.TheDeep.{deep-Value, deep-NamedValues}
use Rattle.jexl_value.specs.declared.value.NamedValues.TheInside.{Inside}
use denote.Param.Weighed.{most}

pub value_weight-le-depth : (v : Value) → deep-Value v ≤ depth (as_json v)
value_weight-le-depth Null = omega arith
value_weight-le-depth (Truth b) = omega arith
value_weight-le-depth (Whole n) = omega arith
value_weight-le-depth (Text s) = omega arith
value_weight-le-depth (List xs) = omega arith
value_weight-le-depth (Object ms) = omega arith

pub items_weight-le-depth : (vs : Seq Value) → most deep-Value vs ≤ items_depth (items_of (map as_json vs))
items_weight-le-depth [] = omega arith
items_weight-le-depth (v ∷ vs) = omega (arith, value_weight-le-depth v, items_weight-le-depth vs)

pub members_weight-le-depth : (weight : Seq ℕ × Value → ℕ) → ((m : Seq ℕ × Value) → weight m ≤ depth (as_json m.1)) → (ms : Seq (Seq ℕ × Value)) → max (most weight ms) 0 ≤ members_depth (members_of (map member_of ms))
members_weight-le-depth weight h [] = omega arith
members_weight-le-depth weight h (m ∷ ms) = omega (arith, h m, members_weight-le-depth weight h ms)

pub deep_pairs-le-depth : (a : Inside) → deep-NamedValues a ≤ members_depth (members_of (map member_of a.pairs.items))
deep_pairs-le-depth a = members_weight-le-depth _ (λ m. omega (arith, value_weight-le-depth m.1)) a.pairs.items
